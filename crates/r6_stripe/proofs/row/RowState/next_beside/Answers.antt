use Rattle.std.proofs.Common.{◌≡◌, Bool, true, ℕ, List, length, refl, sym, ◌∙◌, ap, subst, Some, None}
use Rattle.std.specs.Prelude.{Option}
use Rattle.r6_stripe.specs.Checks.{IsClassed}
use Rattle.r6_stripe.specs.Preparing.{IsPrepared, PutsOne}
use Rattle.r6_stripe.specs.RowViews.{row_of_state}
use Rattle.r6_stripe.specs.Seconds.{IsSoundBeside, is_followed, second_after, spare_after, with_second}
use Rattle.r6_stripe.specs.Sound.{IsSound}
use Rattle.r6_stripe.specs.Steps.{Held, PutsOut}
use Rattle.r6_stripe.specs.Views.{held_of, hold_of, planned_of}
use Rattle.r6_stripe.specs.declared.command.RowCommand.TheVariants as command
use Rattle.r6_stripe.specs.declared.row.RowState.{RowState}
use Rattle.r6_stripe.specs.declared.state.HoldState.{HoldState}
use Rattle.r6_stripe.specs.declared.second.Second.{Second}
use Rattle.r6_stripe.proofs.BesideLosses.{sound_some}
use Rattle.r6_stripe.proofs.BesideNext.{After, following_is, inside_none, inside_read, inside_write, none_sound, read_sound, size_none, size_read, size_write, spare_long, write_puts}
use Rattle.r6_stripe.proofs.BesidePuts.{puts_none, puts_read}
use Rattle.r6_stripe.proofs.BesideRow.{going_row, recalled_live, row_inside, seen_is}
use Rattle.r6_stripe.proofs.row.RowState.next_beside.Goals as goal

pub is_recalled-requires : goal.is_recalled-requires
is_recalled-requires c = row_inside c.args.self.now c.args.second c.requires.sound c.requires.second

pub next_recalled-requires-clause-in_sync : goal.next_recalled-requires-clause-in_sync
next_recalled-requires-clause-in_sync c = recalled_live c.args.self.now c.args.second c.requires.sound c.requires.second (sym c.is_recalled.ensures ∙ c.if-is_recalled.true)

pub next_command-requires : goal.next_command-requires
next_command-requires c = record { sound = c.requires.sound.sound; classed = c.requires.sound.classed; prepared = c.requires.sound.prepared }

-- what `follow` leaves
later_is : (row last : RowState) (n : HoldState) (second : Second) (i : ℕ) (buffer : List ℕ) → row.second ≡ Some second → last.hold ≡ n → last.spare_away ≡ row.spare_away →
    (last.second ≡ second_after (After n second) second i row.second) × (last.spare ≡ spare_after (After n second) second i buffer row.spare) →
    with_second (second_after (After n second) second i (Some second)) (spare_after (After n second) second i buffer row.spare) row.spare_away (held_of n) ≡ row_of_state last
later_is row last n second i buffer is hold away follows =
    λ k. with_second (sym (follows.0 ∙ ap (second_after (After n second) second i) is) k) (sym follows.1 k) (sym away k) (held_of (sym hold k))

pub returns-in-Some-Write-clause-puts_out : goal.returns-in-Some-Write-clause-puts_out
returns-in-Some-Write-clause-puts_out c =
    let row = c.args.self.now in
    let second = c.args.second in
    let n = c.next_command.new.self in
    let last = c.follow.new.self in
    let i = c.in-Some-Write.position in
    let buffer = c.in-Some-Write.buffer in
    let sound = sound_some row second c.requires.sound c.requires.second in
    let goes = going_row row second sound (sym c.is_recalled.ensures ∙ c.if-is_recalled.false) in
    let due = sym c.is_due.ensures ∙ c.if-is_due.false in
    let puts : PutsOne (held_of row.hold) (Some (command.Write i buffer)) (held_of n) = rw c.in-Some-Write.field-0-is at c.in-Some-Write.ensures.puts_out in
    let both = write_puts row.hold n second row.spare row.spare_away sound goes due (inside_write row.hold n second i buffer goes puts.0) i buffer puts.0 in
    let later = later_is row last n second i buffer c.requires.second c.follow.ensures.hold c.follow.ensures.away c.follow.ensures.follows in
    subst (λ (old : Held). PutsOut old (Some (command.Write i buffer)) (row_of_state last)) (seen_is row second c.requires.second)
    (subst (λ (new : Held). PutsOut (with_second (Some second) row.spare row.spare_away (held_of row.hold)) (Some (command.Write i buffer)) new) later (both.0, puts.1))

pub returns-in-Some-Read-clause-puts_out : goal.returns-in-Some-Read-clause-puts_out
returns-in-Some-Read-clause-puts_out c =
    let row = c.args.self.now in
    let second = c.args.second in
    let n = c.next_command.new.self in
    let i = c.in-Some-Read.position in
    let buffer = c.in-Some-Read.buffer in
    let sound = sound_some row second c.requires.sound c.requires.second in
    let goes = going_row row second sound (sym c.is_recalled.ensures ∙ c.if-is_recalled.false) in
    let puts : PutsOne (held_of row.hold) (Some (command.Read i buffer)) (held_of n) = rw c.in-Some-Read.field-0-is at c.in-Some-Read.ensures.puts_out in
    (λ (h : PutsOut (with_second (Some second) row.spare row.spare_away (held_of row.hold)) (Some (command.Read i buffer)) (with_second (Some second) row.spare row.spare_away (held_of n))).
    subst (λ (o : Option Second). PutsOut (with_second o row.spare row.spare_away (held_of row.hold)) (Some (command.Read i buffer)) (with_second o row.spare row.spare_away (held_of n))) (sym c.requires.second) h)
    (puts_read second row.spare row.spare_away (held_of row.hold) goes i (held_of n) puts.0, puts.1)

pub returns-in-None-clause-puts_out : goal.returns-in-None-clause-puts_out
returns-in-None-clause-puts_out c =
    let row = c.args.self.now in
    let second = c.args.second in
    let n = c.next_command.new.self in
    let sound = sound_some row second c.requires.sound c.requires.second in
    let goes = going_row row second sound (sym c.is_recalled.ensures ∙ c.if-is_recalled.false) in
    let due = sym c.is_due.ensures ∙ c.if-is_due.false in
    let puts : PutsOne (held_of row.hold) None (held_of n) = c.in-None.ensures.puts_out in
    let both = puts_none second row.spare row.spare_away (held_of row.hold) goes (held_of n) puts.0 puts.1 due in
    (λ (h : PutsOut (with_second (Some second) row.spare row.spare_away (held_of row.hold)) None (with_second (Some second) row.spare row.spare_away (held_of n))).
    subst (λ (o : Option Second). PutsOut (with_second o row.spare row.spare_away (held_of row.hold)) None (with_second o row.spare row.spare_away (held_of n))) (sym c.requires.second) h)
    (both.0, both.1, puts.2, puts.3, refl)

pub returns-in-Some-Copy-clause-puts_out : goal.returns-in-Some-Copy-clause-puts_out
returns-in-Some-Copy-clause-puts_out c =
    let puts : PutsOne (held_of c.args.self.now.hold) (Some (command.Copy c.in-Some-Copy.position c.in-Some-Copy.buffer)) (held_of c.next_command.new.self) = rw c.in-Some-Copy.field-0-is at c.in-Some-Copy.ensures.puts_out in
    absurd puts

pub returns-in-None-clause-sound : goal.returns-in-None-clause-sound
returns-in-None-clause-sound c =
    let row = c.args.self.now in
    let second = c.args.second in
    let n = c.next_command.new.self in
    let sound = sound_some row second c.requires.sound c.requires.second in
    let goes = going_row row second sound (sym c.is_recalled.ensures ∙ c.if-is_recalled.false) in
    let due = sym c.is_due.ensures ∙ c.if-is_due.false in
    let puts : PutsOne (held_of row.hold) None (held_of n) = c.in-None.ensures.puts_out in
    record {
      sound = c.next_command.ensures.sound;
      classed = c.next_command.ensures.classed;
      prepared = c.next_command.ensures.prepared;
      spare = λ e. c.requires.sound.spare e ∙ sym (size_none row.hold n second goes puts.0);
      second = subst (IsSoundBeside (held_of n) row.spare_away) (sym c.requires.second)
          (none_sound row.hold n second row.spare row.spare_away sound goes due (inside_none row.hold n second goes puts.0) puts.0);
    }

pub returns-in-Some-Read-clause-sound : goal.returns-in-Some-Read-clause-sound
returns-in-Some-Read-clause-sound c =
    let row = c.args.self.now in
    let second = c.args.second in
    let n = c.next_command.new.self in
    let i = c.in-Some-Read.position in
    let buffer = c.in-Some-Read.buffer in
    let sound = sound_some row second c.requires.sound c.requires.second in
    let goes = going_row row second sound (sym c.is_recalled.ensures ∙ c.if-is_recalled.false) in
    let due = sym c.is_due.ensures ∙ c.if-is_due.false in
    let puts : PutsOne (held_of row.hold) (Some (command.Read i buffer)) (held_of n) = rw c.in-Some-Read.field-0-is at c.in-Some-Read.ensures.puts_out in
    record {
      sound = c.next_command.ensures.sound;
      classed = c.next_command.ensures.classed;
      prepared = c.next_command.ensures.prepared;
      spare = λ e. c.requires.sound.spare e ∙ sym (size_read row.hold n i puts.0);
      second = subst (IsSoundBeside (held_of n) row.spare_away) (sym c.requires.second)
          (read_sound row.hold n second row.spare row.spare_away sound goes due (inside_read row.hold n second i goes puts.0) i puts.0);
    }

pub returns-in-Some-Copy-clause-sound : goal.returns-in-Some-Copy-clause-sound
returns-in-Some-Copy-clause-sound c =
    let puts : PutsOne (held_of c.args.self.now.hold) (Some (command.Copy c.in-Some-Copy.position c.in-Some-Copy.buffer)) (held_of c.next_command.new.self) = rw c.in-Some-Copy.field-0-is at c.in-Some-Copy.ensures.puts_out in
    absurd puts

pub follow-requires : goal.follow-requires
follow-requires c =
    let row = c.args.self.now in
    let second = c.args.second in
    let n = c.next_command.new.self in
    let i = c.in-Some-Write.position in
    let buffer = c.in-Some-Write.buffer in
    let sound = sound_some row second c.requires.sound c.requires.second in
    let goes = going_row row second sound (sym c.is_recalled.ensures ∙ c.if-is_recalled.false) in
    let puts : PutsOne (held_of row.hold) (Some (command.Write i buffer)) (held_of n) = rw c.in-Some-Write.field-0-is at c.in-Some-Write.ensures.puts_out in
    record {
      place = inside_write row.hold n second i buffer goes puts.0;
      size = λ is. puts.1 ∙ sym (c.requires.sound.spare (sound.following_home (following_is second.copy is)));
    }

pub returns-in-Some-Write-clause-sound : goal.returns-in-Some-Write-clause-sound
returns-in-Some-Write-clause-sound c =
    let row = c.args.self.now in
    let second = c.args.second in
    let n = c.next_command.new.self in
    let last = c.follow.new.self in
    let i = c.in-Some-Write.position in
    let buffer = c.in-Some-Write.buffer in
    let sound = sound_some row second c.requires.sound c.requires.second in
    let goes = going_row row second sound (sym c.is_recalled.ensures ∙ c.if-is_recalled.false) in
    let due = sym c.is_due.ensures ∙ c.if-is_due.false in
    let puts : PutsOne (held_of row.hold) (Some (command.Write i buffer)) (held_of n) = rw c.in-Some-Write.field-0-is at c.in-Some-Write.ensures.puts_out in
    let both = write_puts row.hold n second row.spare row.spare_away sound goes due (inside_write row.hold n second i buffer goes puts.0) i buffer puts.0 in
    let same : last.hold ≡ n = c.follow.ensures.hold in
    record {
      sound = subst IsSound (sym same) c.next_command.ensures.sound;
      classed = subst (λ (h : HoldState). IsClassed (hold_of h) h.class) (sym same) c.next_command.ensures.classed;
      prepared = subst (λ (h : HoldState). h.prepared ≡ true → IsPrepared (planned_of h)) (sym same) c.next_command.ensures.prepared;
      spare = λ e.
          ap length c.follow.ensures.follows.1
          ∙ spare_long (is_followed (After n second) second i) buffer row.spare row.hold.len puts.1 (c.requires.sound.spare (sym c.follow.ensures.away ∙ e))
          ∙ sym (size_write row.hold n second i buffer goes puts.0) ∙ ap (λ (h : HoldState). h.len) (sym same);
      second =
          subst (λ (h : HoldState). IsSoundBeside (held_of h) last.spare_away last.second) (sym same)
          (subst (λ (a : Bool). IsSoundBeside (held_of n) a last.second) (sym c.follow.ensures.away)
          (subst (λ (o : Option Second). IsSoundBeside (held_of n) row.spare_away o) (sym (c.follow.ensures.follows.0 ∙ ap (second_after (After n second) second i) c.requires.second)) both.1));
    }
