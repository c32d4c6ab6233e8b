-- A refused action has a number.
use Rattle.std.proofs.Common.{◌≡◌, refl, false, eqb}
use Rattle.acts.specs.declared.ActionRefusal.{ActionRefusal}
use Rattle.acts.specs.declared.ActionRefusal.TheVariants.{NoSuchNode, NoSuchLock, NotIdle, Holds, LettingGo, DoesNotHold, BadState}
use Rattle.acts.specs.Actions.{action_refusal_number}

pub refusal_told : (refusal : ActionRefusal) → eqb (action_refusal_number refusal) 0 ≡ false
unfolding action_refusal_number
refusal_told NoSuchNode = refl
refusal_told NoSuchLock = refl
refusal_told NotIdle = refl
refusal_told Holds = refl
refusal_told LettingGo = refl
refusal_told DoesNotHold = refl
refusal_told BadState = refl
