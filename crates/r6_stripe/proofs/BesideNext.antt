-- The command that comes next, and what it makes of a second device.
use Rattle.std.proofs.Common.{◌≡◌, ◌≢◌, ◌⊎◌, inl, inr, Bool, true, false, ℕ, ◌<◌, List, [], length, get_or, set, refl, sym, ◌∙◌, ap, subst, arith, Some}
use Rattle.std.specs.Prelude.{◌&&◌, ◌==◌, if◌then◌else◌}
use Rattle.std.proofs.lemmas.Bool.{cases_eq, eq-eqb, ne_eqb}
use Rattle.std.proofs.lemmas.List.{get_or-set_other, get_or-set_same, length-set}
use Rattle.r6_stripe.specs.Holds.{Standing, Reading, Cell, cell_at, no_cell, doubled}
use Rattle.r6_stripe.specs.Holds.Standing.{InSync, Target, Out}
use Rattle.r6_stripe.specs.Holds.Reading.{Asked, AskedAgain, Fixing}
use Rattle.r6_stripe.specs.Holds.Writing.{Unwritten, Ready, Sent}
use Rattle.r6_stripe.specs.Places.{no_place, was_sent, writing_of}
use Rattle.r6_stripe.specs.Plans as plans
use Rattle.r6_stripe.specs.Plans.{Planned, is_out}
use Rattle.r6_stripe.specs.Plans.Next.{FixAt, ReadAt}
use Rattle.r6_stripe.specs.Seconds.{IsSecondSound, IsSoundBeside, is_due, is_followed, is_following, second_after, spare_after, with_second}
use Rattle.r6_stripe.specs.Steps.{Held, PutsFixOut, PutsNewOut, PutsReadOut}
use Rattle.r6_stripe.specs.Views.{held_of}
use Rattle.r6_stripe.specs.declared.place.PositionState.{PositionState}
use Rattle.r6_stripe.specs.declared.place.WriteState.{WriteState}
use Rattle.r6_stripe.specs.declared.place.WriteState.TheVariants as write
use Rattle.r6_stripe.specs.declared.second.CopyState.{CopyState}
use Rattle.r6_stripe.specs.declared.second.CopyState.TheVariants as copy
use Rattle.r6_stripe.specs.declared.second.Doubling.TheVariants as doubling
use Rattle.r6_stripe.specs.declared.second.Second.{Second}
use Rattle.r6_stripe.specs.declared.state.HoldState.{HoldState}
use Rattle.r6_stripe.proofs.BesidePuts.{puts_fix, puts_new, sends_apart, sends_both}
use Rattle.r6_stripe.proofs.BesideSound.{sound_after, sound_sent}
use Rattle.r6_stripe.proofs.BesideSteps.{IsAfter, IsGoing, IsPreparedBoth, prepares_both}
use Rattle.r6_stripe.proofs.Places.{cell_at-cells_of, length-cells_of}
use Rattle.r6_stripe.proofs.Steps.{comes, unwritten_all}
use Rattle.r6_stripe.proofs.WritesLeft.{at_set}

following_only : (c : CopyState) → (is_following c ≡ true → c ≡ copy.Following) × (is_following c ≡ false → c ≢ copy.Following)
following_only copy.Unwritten = ((λ e. absurd cc), λ e f. cc)
following_only copy.Following = ((λ e. refl), λ e. absurd cc)
following_only copy.Ready = ((λ e. absurd cc), λ e f. cc)
following_only copy.Sent = ((λ e. absurd cc), λ e f. cc)
following_only copy.Confirmed = ((λ e. absurd cc), λ e f. cc)

sent_of : (w : WriteState) (block : List ℕ) → writing_of w block ≡ Sent → was_sent w ≡ true
sent_of write.Unwritten block e = absurd cc
sent_of write.Ready block e = absurd cc
sent_of write.Sent block e = refl
sent_of write.Confirmed block e = absurd cc

unsent_of : (w : WriteState) (block : List ℕ) → writing_of w block ≡ Unwritten → was_sent w ≡ false
unsent_of write.Unwritten block e = refl
unsent_of write.Ready block e = absurd cc
unsent_of write.Sent block e = absurd cc
unsent_of write.Confirmed block e = absurd cc

-- whether the write that left is the one that the second device's follows
unfollowed : (place : PositionState) (second : Second) (i : ℕ) → (i ≡ second.position → second.copy ≡ copy.Following → was_sent place.write ≡ false) → is_followed place second i ≡ false
unfollowed place second i none =
    elim (cases_eq i second.position) [
      | inl same ↦ by_copy (i == second.position) (is_following second.copy) refl (none same)
      | inr apart ↦ rw (ne_eqb i second.position apart) refl
    ]
  where
    by_copy : (a b : Bool) → is_following second.copy ≡ b → (second.copy ≡ copy.Following → was_sent place.write ≡ false) → (a && b && was_sent place.write) ≡ false
    by_copy false b is h = refl
    by_copy true false is h = refl
    by_copy true true is h = h ((following_only second.copy).0 is)

followed : (place : PositionState) (second : Second) (i : ℕ) → i ≡ second.position → second.copy ≡ copy.Following → was_sent place.write ≡ true → is_followed place second i ≡ true
followed place second i same follows put = rw (eq-eqb i second.position same, follows, put) refl

-- a fix leaves the writes as they are, none of which was put out
fix_unsent : (s n : HoldState) (second : Second) (i : ℕ) (put : List ℕ) → second.position < length n.places → PutsFixOut (held_of s) i put (held_of n) → was_sent (get_or n.places second.position no_place).write ≡ false
fix_unsent s n second i put inside puts =
    let p = second.position in
    let cells : List Cell = (held_of s).planned.hold.cells in
    let c = comes (held_of s).planned (FixAt i) puts.0.0 in
    let unwritten : (cell_at cells p).writing ≡ Unwritten = (unwritten_all (held_of s).planned.hold c.2 p).0 in
    let later : (cell_at (held_of n).planned.hold.cells p).writing ≡ (cell_at cells p).writing =
    ap (λ (h : Held). (cell_at h.planned.hold.cells p).writing) puts.1 ∙ at_set (λ x. x.writing) cells i (record (cell_at cells i) { reading = Fixing }) refl p in
    unsent_of (get_or n.places p no_place).write (get_or n.blocks.items p [])
    (ap (λ (x : Cell). x.writing) (sym (cell_at-cells_of n.places n.blocks.items p no_place inside)) ∙ later ∙ unwritten)

new_sent : (s n : HoldState) (second : Second) (i : ℕ) (put : List ℕ) → second.position < length n.places → second.position < length (held_of s).planned.hold.cells → (puts : PutsNewOut (held_of s) i put (held_of n)) → i ≡ second.position → second.position < length puts.0.hold.cells →
    (cell_at (held_of n).planned.hold.cells second.position).writing ≡ Sent
new_sent s n second i put inside below puts same there =
    let cells : List Cell = puts.0.hold.cells in
    let leaves : Cell = record (cell_at cells i) { writing = Sent; doubling = doubled (cell_at cells i).second (cell_at cells i).doubling } in
    ap (λ (h : Held). (cell_at h.planned.hold.cells second.position).writing) puts.4
    ∙ subst (λ (j : ℕ). (cell_at (set cells i leaves) j).writing ≡ Sent) same (ap (λ (x : Cell). x.writing) (get_or-set_same cells i leaves no_cell (omega (arith, there, same))))

abbrev pub After : HoldState → Second → PositionState
After n second = get_or n.places second.position no_place

module _ (s n : HoldState) (second : Second) (block : List ℕ) (away : Bool) (sound : IsSecondSound (held_of s) away second) (going : IsGoing second (held_of s).planned) (due : is_due second ≡ false) (inside : second.position < length n.places) where
  abbrev p : ℕ
  p = second.position

  abbrev old : Held
  old = held_of s

  abbrev new : Held
  new = held_of n

  below : p < length new.planned.hold.cells
  below = omega (arith, inside, length-cells_of n.places n.blocks.items)

  gone : second.recalled ≡ true → (st : Standing) → st ≡ (cell_at old.planned.hold.cells p).standing → st ≢ Out → ⊥
  gone is st same live = live (by_out st (ap is_out same ∙ going.unrecalled is))
    where
      by_out : (t : Standing) → is_out t ≡ true → t ≡ Out
      by_out InSync e = absurd cc
      by_out Target e = absurd cc
      by_out Out e = refl

  keeps : IsAfter (cell_at old.planned.hold.cells p) (cell_at new.planned.hold.cells p) → IsSecondSound new away second
  keeps after = sound_after old new away second below after (λ is. gone is (cell_at new.planned.hold.cells p).standing after.standing) sound

  read_set : (i : ℕ) (r : Reading) → new.planned.hold.cells ≡ set old.planned.hold.cells i (record (cell_at old.planned.hold.cells i) { reading = r }) → IsAfter (cell_at old.planned.hold.cells p) (cell_at new.planned.hold.cells p)
  read_set i r is =
      let cells : List Cell = old.planned.hold.cells in
      let cell : Cell = record (cell_at cells i) { reading = r } in
      record {
        standing = ap (λ (cs : List Cell). (cell_at cs p).standing) is ∙ at_set (λ x. x.standing) cells i cell refl p;
        writing = inl (ap (λ (cs : List Cell). (cell_at cs p).writing) is ∙ at_set (λ x. x.writing) cells i cell refl p);
      }

  pub none_sound : plans.Prepares old.planned new.planned → IsSecondSound new away second
  none_sound prepares = keeps (prepares_both second block old.planned new.planned prepares going).after

  pub read_sound : (i : ℕ) → PutsReadOut old i new → IsSecondSound new away second
  read_sound i (inl puts) = keeps (read_set i Asked (ap (λ (h : Held). h.planned.hold.cells) puts.1))
  read_sound i (inr puts) = keeps (read_set i AskedAgain (ap (λ (h : Held). h.planned.hold.cells) puts.1))

  -- a write is put out: that of the second device follows it, or not
  pub write_puts : (i : ℕ) (put : List ℕ) → PutsFixOut old i put new ⊎ PutsNewOut old i put new →
      (PutsFixOut (with_second (Some second) block away old) i put (with_second (second_after (After n second) second i (Some second)) (spare_after (After n second) second i put block) away new)
      ⊎ PutsNewOut (with_second (Some second) block away old) i put (with_second (second_after (After n second) second i (Some second)) (spare_after (After n second) second i put block) away new))
      × IsSoundBeside new away (second_after (After n second) second i (Some second))
  write_puts i put (inl puts) =
      let none = unfollowed (After n second) second i (λ same follows. fix_unsent s n second i put inside puts) in
      rw none (inl (puts_fix second block away old going i put new puts), keeps (read_set i Fixing (ap (λ (h : Held). h.planned.hold.cells) puts.1)))
  write_puts i put (inr puts) =
      let both : IsPreparedBoth second block old.planned puts.0 = prepares_both second block old.planned puts.0 puts.1 going in
      let cells : List Cell = puts.0.hold.cells in
      let leaves : Cell = record (cell_at cells i) { writing = Sent; doubling = doubled (cell_at cells i).second (cell_at cells i).doubling } in
      let is : new.planned.hold.cells ≡ set cells i leaves = ap (λ (h : Held). h.planned.hold.cells) puts.4 in
      elim (cases_eq i p) [
        | inr apart ↦
            let none = unfollowed (After n second) second i (λ same. absurd (apart same)) in
            let same : cell_at new.planned.hold.cells p ≡ cell_at cells p = ap (λ (cs : List Cell). cell_at cs p) is ∙ get_or-set_other cells i p leaves no_cell (λ e. apart (sym e)) in
            rw none (
              inr (puts_new second block away old going second block refl i put new due puts (λ e. (refl, refl)) (λ e. absurd (apart e))),
              keeps (record { standing = ap (λ (x : Cell). x.standing) same ∙ both.after.standing; writing = subst (λ (x : Cell). (x.writing ≡ (cell_at old.planned.hold.cells p).writing) ⊎ (((cell_at old.planned.hold.cells p).writing ≡ Unwritten) × ((b : List ℕ) × (x.writing ≡ Ready b)))) (sym same) both.after.writing }),
            )
        | inl same ↦ by_copy (is_following second.copy) refl same both is
      ]
    where
      by_copy : (b : Bool) → is_following second.copy ≡ b → i ≡ p → IsPreparedBoth second block old.planned puts.0 →
          new.planned.hold.cells ≡ set puts.0.hold.cells i (record (cell_at puts.0.hold.cells i) { writing = Sent; doubling = doubled (cell_at puts.0.hold.cells i).second (cell_at puts.0.hold.cells i).doubling }) →
          (PutsFixOut (with_second (Some second) block away old) i put (with_second (second_after (After n second) second i (Some second)) (spare_after (After n second) second i put block) away new)
          ⊎ PutsNewOut (with_second (Some second) block away old) i put (with_second (second_after (After n second) second i (Some second)) (spare_after (After n second) second i put block) away new))
          × IsSoundBeside new away (second_after (After n second) second i (Some second))
      by_copy true is same both cells_is =
          let follows = (following_only second.copy).0 is in
          let put_out = new_sent s n second i put inside sound.within puts same both.going.inside in
          let sent_at = sent_of (After n second).write (get_or n.blocks.items p []) (ap (λ (x : Cell). x.writing) (sym (cell_at-cells_of n.places n.blocks.items p no_place inside)) ∙ put_out) in
          let leaves : Cell = record (cell_at puts.0.hold.cells i) { writing = Sent; doubling = doubled (cell_at puts.0.hold.cells i).second (cell_at puts.0.hold.cells i).doubling } in
          let standing : (cell_at new.planned.hold.cells p).standing ≡ (cell_at old.planned.hold.cells p).standing =
          ap (λ (cs : List Cell). (cell_at cs p).standing) cells_is ∙ at_set (λ x. x.standing) puts.0.hold.cells i leaves refl p ∙ both.after.standing in
          rw (followed (After n second) second i same follows sent_at) (
            inr (puts_new second block away old going (record second { copy = copy.Ready; doubling = doubling.Doubled }) put refl i put new due puts (λ e. absurd (e same))
                (λ e. sends_both second block (cell_at puts.0.hold.cells p) both.going.steady follows put (subst (λ (j : ℕ). (cell_at puts.0.hold.cells j).writing ≡ Ready put) same puts.3))),
            sound_sent new away (record second { copy = copy.Ready; doubling = doubling.Doubled }) below put_out (λ e. standing ∙ sound.beside_one e) sound.untargeted (λ e. cc) (λ e f. cc) (λ e. sound.following_home follows) (λ e. cc)
                (unrecalled second.recalled refl follows),
          )
        where
          unrecalled : (b : Bool) → second.recalled ≡ b → second.copy ≡ copy.Following → b ≡ false
          unrecalled false e f = refl
          unrecalled true e f = absurd (let g = sym f ∙ (sound.alone e).1 in cc)
      by_copy false is same both cells_is =
          let apart = (following_only second.copy).1 is in
          let put_out = new_sent s n second i put inside sound.within puts same both.going.inside in
          let leaves : Cell = record (cell_at puts.0.hold.cells i) { writing = Sent; doubling = doubled (cell_at puts.0.hold.cells i).second (cell_at puts.0.hold.cells i).doubling } in
          let standing : (cell_at new.planned.hold.cells p).standing ≡ (cell_at old.planned.hold.cells p).standing =
          ap (λ (cs : List Cell). (cell_at cs p).standing) cells_is ∙ at_set (λ x. x.standing) puts.0.hold.cells i leaves refl p ∙ both.after.standing in
          rw (unfollowed (After n second) second i (λ e f. absurd (apart f))) (
            inr (puts_new second block away old going second block refl i put new due puts (λ e. (refl, refl))
                (λ e. sends_apart second block (cell_at puts.0.hold.cells p) both.going.steady apart put (subst (λ (j : ℕ). (cell_at puts.0.hold.cells j).writing ≡ Ready put) same puts.3))),
            sent_on standing put_out apart,
          )
        where
          sent_on : (cell_at new.planned.hold.cells p).standing ≡ (cell_at old.planned.hold.cells p).standing → (cell_at new.planned.hold.cells p).writing ≡ Sent → second.copy ≢ copy.Following → IsSecondSound new away second
          sent_on standing put_out apart = record {
            within = below;
            untargeted = sound.untargeted;
            beside_one = λ e. standing ∙ sound.beside_one e;
            follows = λ e. inr (inl put_out);
            early = λ e. absurd (apart e);
            owed = sound.owed;
            over = sound.over;
            computed = λ u f e. let g = sym put_out ∙ e in cc;
            following_home = sound.following_home;
            ready_home = sound.ready_home;
            confirmed_home = sound.confirmed_home;
            alone = sound.alone;
            recalled = λ e live. absurd (gone e (cell_at new.planned.hold.cells p).standing standing live);
          }

-- ---- the row keeps its positions

inside_cells : (n : HoldState) (p : ℕ) (cells : List Cell) → (held_of n).planned.hold.cells ≡ cells → p < length cells → p < length n.places
inside_cells n p cells is below = omega (arith, ap length is, below, length-cells_of n.places n.blocks.items)

pub inside_write : (s n : HoldState) (second : Second) (i : ℕ) (put : List ℕ) → IsGoing second (held_of s).planned → PutsFixOut (held_of s) i put (held_of n) ⊎ PutsNewOut (held_of s) i put (held_of n) → second.position < length n.places
inside_write s n second i put going (inl puts) =
    let cells : List Cell = (held_of s).planned.hold.cells in
    let cell : Cell = record (cell_at cells i) { reading = Fixing } in
    inside_cells n second.position (set cells i cell) (ap (λ (h : Held). h.planned.hold.cells) puts.1) (omega (arith, going.inside, length-set cells i cell))
inside_write s n second i put going (inr puts) =
    let both : IsPreparedBoth second [] (held_of s).planned puts.0 = prepares_both second [] (held_of s).planned puts.0 puts.1 going in
    let cells : List Cell = puts.0.hold.cells in
    let cell : Cell = record (cell_at cells i) { writing = Sent; doubling = doubled (cell_at cells i).second (cell_at cells i).doubling } in
    inside_cells n second.position (set cells i cell) (ap (λ (h : Held). h.planned.hold.cells) puts.4) (omega (arith, both.going.inside, length-set cells i cell))

pub inside_read : (s n : HoldState) (second : Second) (i : ℕ) → IsGoing second (held_of s).planned → PutsReadOut (held_of s) i (held_of n) → second.position < length n.places
inside_read s n second i going (inl puts) =
    let cells : List Cell = (held_of s).planned.hold.cells in
    let cell : Cell = record (cell_at cells i) { reading = Asked } in
    inside_cells n second.position (set cells i cell) (ap (λ (h : Held). h.planned.hold.cells) puts.1) (omega (arith, going.inside, length-set cells i cell))
inside_read s n second i going (inr puts) =
    let cells : List Cell = (held_of s).planned.hold.cells in
    let cell : Cell = record (cell_at cells i) { reading = AskedAgain } in
    inside_cells n second.position (set cells i cell) (ap (λ (h : Held). h.planned.hold.cells) puts.1) (omega (arith, going.inside, length-set cells i cell))

pub inside_none : (s n : HoldState) (second : Second) → IsGoing second (held_of s).planned → plans.Prepares (held_of s).planned (held_of n).planned → second.position < length n.places
inside_none s n second going prepares =
    let both : IsPreparedBoth second [] (held_of s).planned (held_of n).planned = prepares_both second [] (held_of s).planned (held_of n).planned prepares going in
    omega (arith, both.going.inside, length-cells_of n.places n.blocks.items)

-- the size of a block stays
pub size_write : (s n : HoldState) (second : Second) (i : ℕ) (put : List ℕ) → IsGoing second (held_of s).planned → PutsFixOut (held_of s) i put (held_of n) ⊎ PutsNewOut (held_of s) i put (held_of n) → n.len ≡ s.len
size_write s n second i put going (inl puts) = ap (λ (h : Held). h.planned.hold.size) puts.1
size_write s n second i put going (inr puts) =
    ap (λ (h : Held). h.planned.hold.size) puts.4 ∙ (prepares_both second [] (held_of s).planned puts.0 puts.1 going).size

pub size_read : (s n : HoldState) (i : ℕ) → PutsReadOut (held_of s) i (held_of n) → n.len ≡ s.len
size_read s n i (inl puts) = ap (λ (h : Held). h.planned.hold.size) puts.1
size_read s n i (inr puts) = ap (λ (h : Held). h.planned.hold.size) puts.1

pub size_none : (s n : HoldState) (second : Second) → IsGoing second (held_of s).planned → plans.Prepares (held_of s).planned (held_of n).planned → n.len ≡ s.len
size_none s n second going prepares = (prepares_both second [] (held_of s).planned (held_of n).planned prepares going).size

pub following_is : (c : CopyState) → is_following c ≡ true → c ≡ copy.Following
following_is c = (following_only c).0

pub spare_long : (b : Bool) (buffer spare : List ℕ) (size : ℕ) → length buffer ≡ size → length spare ≡ size → length (if b then buffer else spare) ≡ size
spare_long true buffer spare size long other = long
spare_long false buffer spare size long other = other
