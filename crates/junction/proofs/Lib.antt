pub mod MainRing
