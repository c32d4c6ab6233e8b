-- Every public function of the reading of lines, the gathering of runs and the sheet: its promise leaves one possible answer, and one possible content
-- of the slice that it is lent to write in.
use contract.Lifetimes.{Lfts}
use Rattle.linereader.proofs.kind_of.Reads as kind_of
use Rattle.linereader.proofs.start_scan.Reads as start_scan
use Rattle.linereader.proofs.scan_byte.Reads as scan_byte
use Rattle.sums.proofs.SheetRefusal.number.Reads as refusal_number
use Rattle.sums.proofs.sheet_number.Reads as sheet_number
use Rattle.sums.proofs.make_sheet.Reads as make_sheet
use Rattle.sums.proofs.write_sheet.Reads as write_sheet
use Rattle.gather.proofs.start_gather.Reads as start_gather
use Rattle.gather.proofs.is_fine.Reads as is_fine
use Rattle.gather.proofs.more.Reads as more
use Rattle.gather.proofs.after_part.Reads as after_part
use Rattle.gather.proofs.gather_text.Reads as gather_text
use Rattle.gather.proofs.fault_of.Reads as fault_of
use Rattle.gather.proofs.line_number.Reads as line_number
use Rattle.gather.proofs.sheet_of.Reads as sheet_of
use Rattle.settled.specs.Settled.{OneTold, Settled}

-- linereader
pub record LineReader : Type 0 where
  pub kind_of : Settled (kind_of.Asked tt) (kind_of.Learnt tt)
  pub start_scan : Settled (start_scan.Asked tt) (start_scan.Learnt tt)
  pub scan_byte : Settled (scan_byte.Asked tt) (scan_byte.Learnt tt)

-- sums
pub record Sums : Type 0 where
  pub refusal_number : Settled (refusal_number.Asked tt) (refusal_number.Learnt tt)
  pub sheet_number : Settled (sheet_number.Asked tt) (sheet_number.Learnt tt)
  pub make_sheet : (κ : Lfts 1) → Settled (make_sheet.Asked κ) (make_sheet.Learnt κ)
  pub write_sheet_buffer : (κ : Lfts 1) → OneTold (λ r e. e.1.0.now) (write_sheet.Learnt κ)
  pub write_sheet : (κ : Lfts 1) → Settled (write_sheet.Asked κ) (write_sheet.Learnt κ)

-- gather
pub record GatherOf : Type 0 where
  pub start_gather : Settled (start_gather.Asked tt) (start_gather.Learnt tt)
  pub is_fine : Settled (is_fine.Asked tt) (is_fine.Learnt tt)
  pub more : Settled (more.Asked tt) (more.Learnt tt)
  pub after_part : Settled (after_part.Asked tt) (after_part.Learnt tt)
  pub gather_text_rows : (κ : Lfts 2) → OneTold (λ r e. e.1.1.0.now) (gather_text.Learnt κ)
  pub gather_text : (κ : Lfts 2) → Settled (gather_text.Asked κ) (gather_text.Learnt κ)
  pub fault_of : Settled (fault_of.Asked tt) (fault_of.Learnt tt)
  pub line_number : Settled (line_number.Asked tt) (line_number.Learnt tt)
  pub sheet_of : (κ : Lfts 1) → Settled (sheet_of.Asked κ) (sheet_of.Learnt κ)
