-- What the fields of a row's hold stand for, and what is true of them.
use Rattle.std.specs.Prelude.{◌≡◌, true, false, length}
use Rattle.r6_stripe.specs.Checks.{IsClassed}
use Rattle.r6_stripe.specs.Preparing.{IsPrepared}
use Rattle.r6_stripe.specs.Seconds.{IsSoundBeside, with_second}
use Rattle.r6_stripe.specs.Sound.{AreAllHome, IsSound}
use Rattle.r6_stripe.specs.Steps.{Held}
use Rattle.r6_stripe.specs.Views.{held_of, hold_of, planned_of}
use Rattle.r6_stripe.specs.declared.row.RowState.{RowState}

abbrev pub row_of_state : RowState → Held
row_of_state row = with_second row.second row.spare row.spare_away (held_of row.hold)

pub record IsRowSound (row : RowState) : Type 0 where
  pub sound : IsSound row.hold
  pub classed : IsClassed (hold_of row.hold) row.hold.class
  pub prepared : row.hold.prepared ≡ true → IsPrepared (planned_of row.hold)
  pub spare : row.spare_away ≡ false → length row.spare ≡ row.hold.len
  pub second : IsSoundBeside (held_of row.hold) row.spare_away row.second

-- all buffers are home, and of one length
pub record IsRowHome (row : RowState) : Type 0 where
  pub home : AreAllHome row.hold
  pub spare : length row.spare ≡ row.hold.len
  pub spare_home : row.spare_away ≡ false
