-- What a hold puts out with a second device, by what it puts out without it.
use Rattle.std.proofs.Common.{◌≡◌, ◌≢◌, ◌⊎◌, inl, inr, Bool, true, false, ℕ, ◌<◌, List, [], ◌∷◌, length, set, refl, sym, ◌∙◌, ap, subst, arith}
use Rattle.std.specs.Prelude.{◌&&◌, not}
use Rattle.std.proofs.lemmas.Bool.{cases_eq}
use Rattle.std.proofs.lemmas.List.{get_or-set_other, get_or-set_same, length-set, set-set, set_comm}
use Rattle.r6_stripe.specs.Holds as holds
use Rattle.r6_stripe.specs.Holds.{Reading, Writing, Cell, Hold, Event, cell_at, no_cell, own_writing, made_ready, ready_for, replaced, with_known, with_new, IsIndexOf, AreNew}
use Rattle.r6_stripe.specs.Holds.Standing.{InSync, Out}
use Rattle.r6_stripe.specs.Holds.Reading.{Unread, Recalled, Asked, Unreadable, Fixing, Fixed, AskedAgain, Known, Replaced}
use Rattle.r6_stripe.specs.Holds.Writing.{Unwritten, Ready, Sent, Confirmed}
use Rattle.r6_stripe.specs.Holds.Event.{Asks, Fixes, AsksAgain, Restores, Computes, Writes, Copies, Gives, Fails, Confirms, Mends, Settles, Loses, Moves, Drops}
use Rattle.r6_stripe.specs.Places.{standing_of}
use Rattle.r6_stripe.specs.Plans as plans
use Rattle.r6_stripe.specs.Plans.{Planned, AreSilent, IsPlanned, MayFollow, Prepares, is_in_sync, is_out, is_unwritten, planned_after, planned_at}
use Rattle.r6_stripe.specs.Plans.Next.{RestoreAt, ComputeNew}
use Rattle.r6_stripe.specs.Seconds.{beside, cells_beside, copying_of, recalled_if, is_ready, is_due}
use Rattle.r6_stripe.specs.declared.place.Standing.{Standing}
use Rattle.r6_stripe.specs.declared.place.Standing.TheVariants as state
use Rattle.r6_stripe.specs.declared.second.CopyState.{CopyState}
use Rattle.r6_stripe.specs.declared.second.CopyState.TheVariants as copy
use Rattle.r6_stripe.specs.declared.second.Second.{Second}
use Rattle.r6_stripe.proofs.Alone.{AreAlone, own_alone}
use Rattle.r6_stripe.proofs.Beside.{IsTwin, IsUnrecalled, known_recalled, lacks_new_same, standing, here}
use Rattle.r6_stripe.proofs.BesideEvents.{alone_set, are_new, before_both, new_alone, next_apart, update_placed}
use Rattle.r6_stripe.proofs.Bound.{length-with_new}
use Rattle.r6_stripe.proofs.CellsAfter.{cell_after}
use Rattle.r6_stripe.proofs.WritesLeft.{at_set}

-- ---- a position with a second device

-- what is so of the write of a second device, by that of the first
pub record IsSteady (second : Second) (w : Writing) : Type 0 where
  pub untargeted : second.state ≢ state.Target
  pub follows : second.state ≡ state.InSync → (second.copy ≡ copy.Following) ⊎ (w ≡ Sent) ⊎ (w ≡ Confirmed)
  pub over : second.state ≡ state.Out → second.copy ≢ copy.Following
  pub computed : second.copy ≢ copy.Unwritten → second.copy ≢ copy.Following → w ≢ Unwritten

pub paired_by : (c : CopyState) (w : Writing) (block : List ℕ) → (c ≢ copy.Unwritten → c ≢ copy.Following → w ≢ Unwritten) → is_unwritten w ≡ true → is_unwritten (copying_of c w block) ≡ true
paired_by copy.Unwritten w block h e = refl
paired_by copy.Following w block h e = e
paired_by copy.Ready Unwritten block h e = absurd (h (λ f. cc) (λ f. cc) refl)
paired_by copy.Sent Unwritten block h e = absurd (h (λ f. cc) (λ f. cc) refl)
paired_by copy.Confirmed Unwritten block h e = absurd (h (λ f. cc) (λ f. cc) refl)
paired_by copy.Ready (Ready b) block h e = absurd cc
paired_by copy.Ready Sent block h e = absurd cc
paired_by copy.Ready Confirmed block h e = absurd cc
paired_by copy.Sent (Ready b) block h e = absurd cc
paired_by copy.Sent Sent block h e = absurd cc
paired_by copy.Sent Confirmed block h e = absurd cc
paired_by copy.Confirmed (Ready b) block h e = absurd cc
paired_by copy.Confirmed Sent block h e = absurd cc
paired_by copy.Confirmed Confirmed block h e = absurd cc

pub twin_of : (second : Second) (block : List ℕ) (hold : Hold) → second.position < length hold.cells → IsSteady second (cell_at hold.cells second.position).writing → IsTwin second block hold
twin_of second block hold inside steady = record { inside = inside; untargeted = steady.untargeted; paired = paired_by second.copy (cell_at hold.cells second.position).writing block steady.computed }

pub replaced_recalled : (b : Bool) (r : Reading) → recalled_if b (replaced r) ≡ replaced (recalled_if b r)
replaced_recalled false r = refl
replaced_recalled true Unread = refl
replaced_recalled true Recalled = refl
replaced_recalled true Asked = refl
replaced_recalled true Unreadable = refl
replaced_recalled true Fixing = refl
replaced_recalled true Fixed = refl
replaced_recalled true AskedAgain = refl
replaced_recalled true (Known block) = refl
replaced_recalled true Replaced = refl

pub apart_copy : (c : CopyState) (w other : Writing) (block : List ℕ) → c ≢ copy.Following → copying_of c w block ≡ copying_of c other block
apart_copy copy.Unwritten w other block h = refl
apart_copy copy.Following w other block h = absurd (h refl)
apart_copy copy.Ready w other block h = refl
apart_copy copy.Sent w other block h = refl
apart_copy copy.Confirmed w other block h = refl

-- a new block is for both devices
pub ready_both : (second : Second) (block : List ℕ) (cell : Cell) (put : List ℕ) → cell.second ≡ Out → cell.writing ≡ Unwritten → IsSteady second cell.writing →
    beside second block (made_ready cell put) ≡ made_ready (beside second block cell) put
ready_both second block cell put single unwritten steady =
    ap (λ (s : holds.Standing). beside second block (ready_for s cell put)) single ∙ by_state second.state refl
  where
    by_state : (s : Standing) → second.state ≡ s → beside second block (record cell { reading = replaced cell.reading; writing = Ready put }) ≡ ready_for (standing_of s) (beside second block cell) put
    by_state state.InSync is =
        let follows : second.copy ≡ copy.Following = elim (steady.follows is) [ inl e ↦ e | inr (inl e) ↦ absurd (let f = sym unwritten ∙ e in cc) | inr (inr e) ↦ absurd (let f = sym unwritten ∙ e in cc) ] in
        (λ k. record (beside second block cell) { reading = replaced_recalled second.recalled cell.reading k; writing = Ready put; copying = copying_of (follows k) (Ready put) block })
    by_state state.Target is = absurd (steady.untargeted is)
    by_state state.Out is =
        (λ k. record (beside second block cell) { reading = replaced_recalled second.recalled cell.reading k; writing = Ready put; copying = apart_copy second.copy (Ready put) cell.writing block (steady.over is) k })

pub read_both : (second : Second) (block : List ℕ) (cell : Cell) (r : Reading) → recalled_if second.recalled r ≡ r → beside second block (record cell { reading = r }) ≡ record (beside second block cell) { reading = r }
read_both second block cell r e = ap (λ (x : Reading). record (beside second block cell) { reading = x }) e

pub not_recalled : (b : Bool) (r : Reading) → r ≢ Asked → recalled_if b r ≡ r
not_recalled false r h = refl
not_recalled true Unread h = refl
not_recalled true Recalled h = refl
not_recalled true Asked h = absurd (h refl)
not_recalled true Unreadable h = refl
not_recalled true Fixing h = refl
not_recalled true Fixed h = refl
not_recalled true AskedAgain h = refl
not_recalled true (Known block) h = refl
not_recalled true Replaced h = refl

-- ---- new blocks of a row

new_placed : (x : Cell → Cell) (p : ℕ) (cells : List Cell) → p < length cells → (new : List (ℕ × List ℕ)) → ((put : List ℕ) → IsIndexOf p new → x (made_ready (cell_at cells p) put) ≡ made_ready (x (cell_at cells p)) put) →
    set (with_new cells new) p (x (cell_at (with_new cells new) p)) ≡ with_new (set cells p (x (cell_at cells p))) new
new_placed x p cells below [] changes = refl
new_placed x p cells below (entry ∷ rest) changes =
    let W : List Cell = with_new cells rest in
    let placed : List Cell = set cells p (x (cell_at cells p)) in
    let before : set W p (x (cell_at W p)) ≡ with_new placed rest = new_placed x p cells below rest (λ put there. changes put (inr there)) in
    let wide : p < length W = omega (arith, below, length-with_new cells rest) in
    elim (cases_eq entry.0 p) [
      | inl at ↦
          let y : Cell = made_ready (cell_at cells p) entry.1 in
          subst (λ (i : ℕ). set (set W i (made_ready (cell_at cells i) entry.1)) p (x (cell_at (set W i (made_ready (cell_at cells i) entry.1)) p)) ≡ set (with_new placed rest) i (made_ready (cell_at placed i) entry.1)) (sym at)
          (ap (λ (c : Cell). set (set W p y) p (x c)) (get_or-set_same W p y no_cell wide)
          ∙ set-set W p y (x y)
          ∙ ap (λ (c : Cell). set W p c) (changes entry.1 (inl at))
          ∙ sym (set-set W p (x (cell_at W p)) (made_ready (x (cell_at cells p)) entry.1))
          ∙ ap (λ (cs : List Cell). set cs p (made_ready (x (cell_at cells p)) entry.1)) before
          ∙ sym (ap (λ (c : Cell). set (with_new placed rest) p (made_ready c entry.1)) (get_or-set_same cells p (x (cell_at cells p)) no_cell below)))
      | inr apart ↦
          let y : Cell = made_ready (cell_at cells entry.0) entry.1 in
          ap (λ (c : Cell). set (set W entry.0 y) p (x c)) (get_or-set_other W entry.0 p y no_cell (λ e. apart (sym e)))
          ∙ set_comm W entry.0 p y (x (cell_at W p)) apart
          ∙ ap (λ (cs : List Cell). set cs entry.0 y) before
          ∙ sym (ap (λ (c : Cell). set (with_new placed rest) entry.0 (made_ready c entry.1)) (get_or-set_other cells p entry.0 (x (cell_at cells p)) no_cell apart))
    ]

-- only a position without a new block gets one
index_unwritten : (hold : Hold) (new : List (ℕ × List ℕ)) (j : ℕ) → AreNew hold new → IsIndexOf j new → own_writing (cell_at hold.cells j) ≡ Unwritten
index_unwritten hold [] j are there = absurd there
index_unwritten hold (entry ∷ rest) j are (inl same) = subst (λ (i : ℕ). own_writing (cell_at hold.cells i) ≡ Unwritten) same are.0
index_unwritten hold (entry ∷ rest) j are (inr there) = index_unwritten hold rest j are.3 there

-- ---- what is done without a command

pub record IsGoing (second : Second) (planned : Planned) : Type 0 where
  pub alone : AreAlone planned.hold.cells
  pub inside : second.position < length planned.hold.cells
  pub steady : IsSteady second (cell_at planned.hold.cells second.position).writing
  pub unrecalled : IsUnrecalled second (cell_at planned.hold.cells second.position)

abbrev pub twin : (second : Second) (block : List ℕ) (planned : Planned) → IsGoing second planned → IsTwin second block planned.hold
twin second block planned going = twin_of second block planned.hold going.inside going.steady

abbrev pub planned_both : Second → List ℕ → Planned → Planned
planned_both second block planned = record planned { hold = record planned.hold { cells = cells_beside second block planned.hold.cells } }

-- how the position looks after what is done without a command
pub record IsAfter (old new : Cell) : Type 0 where
  pub standing : new.standing ≡ old.standing
  pub writing : (new.writing ≡ old.writing) ⊎ ((old.writing ≡ Unwritten) × ((put : List ℕ) × (new.writing ≡ Ready put)))

after_twice : (a b c : Cell) → IsAfter a b → IsAfter b c → IsAfter a c
after_twice a b c first next = record { standing = next.standing ∙ first.standing; writing = by_both first.writing next.writing }
  where
    by_both : (b.writing ≡ a.writing) ⊎ ((a.writing ≡ Unwritten) × ((put : List ℕ) × (b.writing ≡ Ready put))) → (c.writing ≡ b.writing) ⊎ ((b.writing ≡ Unwritten) × ((put : List ℕ) × (c.writing ≡ Ready put))) →
        (c.writing ≡ a.writing) ⊎ ((a.writing ≡ Unwritten) × ((put : List ℕ) × (c.writing ≡ Ready put)))
    by_both (inl e) (inl f) = inl (f ∙ e)
    by_both (inl e) (inr f) = inr (sym e ∙ f.0, f.1)
    by_both (inr e) (inl f) = inr (e.0, (e.1.0, f ∙ e.1.1))
    by_both (inr e) (inr f) = absurd (let g = sym e.1.1 ∙ f.0 in cc)

going_after : (second : Second) (old new : Planned) → AreAlone new.hold.cells → length new.hold.cells ≡ length old.hold.cells → IsAfter (cell_at old.hold.cells second.position) (cell_at new.hold.cells second.position) → IsGoing second old → IsGoing second new
going_after second old new alone wide after going = record {
  alone = alone;
  inside = omega (arith, going.inside, wide);
  steady = by_writing after.writing;
  unrecalled = λ e. ap is_out after.standing ∙ going.unrecalled e;
}
  where
    by_writing : ((cell_at new.hold.cells second.position).writing ≡ (cell_at old.hold.cells second.position).writing) ⊎ (((cell_at old.hold.cells second.position).writing ≡ Unwritten) × ((put : List ℕ) × ((cell_at new.hold.cells second.position).writing ≡ Ready put))) → IsSteady second (cell_at new.hold.cells second.position).writing
    by_writing (inl e) = subst (IsSteady second) (sym e) going.steady
    by_writing (inr e) = record {
      untargeted = going.steady.untargeted;
      follows = λ is. elim (going.steady.follows is) [ inl f ↦ inl f | inr (inl f) ↦ absurd (let g = sym e.0 ∙ f in cc) | inr (inr f) ↦ absurd (let g = sym e.0 ∙ f in cc) ];
      over = going.steady.over;
      computed = λ u f w. let g = sym e.1.1 ∙ w in cc;
    }

pub record IsLifted (second : Second) (block : List ℕ) (events : List Event) (old : Planned) : Type 0 where
  pub planned : IsPlanned (planned_both second block old) events
  pub at : planned_at (planned_both second block old) events ≡ planned_both second block (planned_at old events)
  pub going : IsGoing second (planned_at old events)
  pub after : IsAfter (cell_at old.hold.cells second.position) (cell_at (planned_at old events).hold.cells second.position)
  pub size : (planned_at old events).hold.size ≡ old.hold.size

-- one step
record IsStep (second : Second) (block : List ℕ) (event : Event) (old : Planned) : Type 0 where
  may : MayFollow (planned_both second block old) event
  same : planned_after (planned_both second block old) event ≡ planned_both second block (planned_after old event)
  going : IsGoing second (planned_after old event)
  after : IsAfter (cell_at old.hold.cells second.position) (cell_at (planned_after old event).hold.cells second.position)

restores_step : (second : Second) (block : List ℕ) (i : ℕ) (put : List ℕ) (old : Planned) → IsGoing second old → MayFollow old (Restores i put) → IsStep second block (Restores i put) old
restores_step second block i put old going may =
    let cells : List Cell = old.hold.cells in
    let p : ℕ = second.position in
    let known : Cell = record (cell_at cells i) { reading = Known put } in
    let later : IsAfter (cell_at cells p) (cell_at (with_known cells i put) p) = record {
      standing = at_set (λ c. c.standing) cells i known refl p;
      writing = inl (at_set (λ c. c.writing) cells i known refl p);
    } in
    record {
      may = (
        next_apart second block old going.alone (twin second block old going) going.unrecalled (RestoreAt i) tt may.0,
        λ row before. may.1 row (before_both second block old going.alone (twin second block old going) row before),
      );
      same = ap (λ (cs : List Cell). record old { hold = record old.hold { cells = cs } })
          (sym (update_placed cells p going.inside (beside second block) (beside second block) (λ c. record c { reading = Known put }) (λ c. record c { reading = Known put }) i (λ e. refl) (λ e. read_both second block (cell_at cells p) (Known put) (known_recalled second.recalled (Known put) put refl)) (λ e. refl)));
      going = going_after second old (planned_after old (Restores i put))
          (alone_set cells i known going.alone (record { second = (going.alone i).second; copying = (going.alone i).copying; unrecalled = refl }))
          (length-set cells i known) later going;
      after = later;
    }

computes_step : (second : Second) (block : List ℕ) (new : List (ℕ × List ℕ)) (old : Planned) → IsGoing second old → MayFollow old (Computes new) → IsStep second block (Computes new) old
computes_step second block new old going may =
    let cells : List Cell = old.hold.cells in
    let p : ℕ = second.position in
    let t : IsTwin second block old.hold = twin second block old going in
    let unwritten : IsIndexOf p new → (cell_at cells p).writing ≡ Unwritten = (λ there. sym (own_alone (cell_at cells p) (going.alone p)) ∙ index_unwritten old.hold new p may.1 there) in
    let later : IsAfter (cell_at cells p) (cell_at (with_new cells new) p) = became (cell_after old.hold (Computes new) p) in
    record {
      may = (
        next_apart second block old going.alone t going.unrecalled ComputeNew tt may.0,
        are_new second block old going.alone t new may.1,
        (λ j lacks. may.2 j (sym (lacks_new_same second block old.hold going.alone t j) ∙ lacks)),
        (λ j there. elim (may.3 j there) [
          | inl lacks ↦ inl (lacks_new_same second block old.hold going.alone t j ∙ lacks)
          | inr out ↦ inr (standing second block old.hold going.alone t j ∙ out)
        ]),
      );
      same = ap (λ (cs : List Cell). record old { hold = record old.hold { cells = cs } })
          (sym (new_placed (beside second block) p cells going.inside new (λ put there. ready_both second block (cell_at cells p) put (going.alone p).second (unwritten there) going.steady)));
      going = going_after second old (planned_after old (Computes new)) (new_alone cells new going.alone) (length-with_new cells new) later going;
      after = later;
    }
  where
    became : (cell_at (with_new old.hold.cells new) second.position ≡ cell_at old.hold.cells second.position)
        ⊎ (IsIndexOf second.position new × ((put : List ℕ) × (cell_at (with_new old.hold.cells new) second.position ≡ made_ready (cell_at old.hold.cells second.position) put))) →
        IsAfter (cell_at old.hold.cells second.position) (cell_at (with_new old.hold.cells new) second.position)
    became (inl e) = record { standing = ap (λ (c : Cell). c.standing) e; writing = inl (ap (λ (c : Cell). c.writing) e) }
    became (inr e) =
        let cell : Cell = cell_at old.hold.cells second.position in
        let single : cell.second ≡ Out = (going.alone second.position).second in
        let is : cell_at (with_new old.hold.cells new) second.position ≡ record cell { reading = replaced cell.reading; writing = Ready e.1.0 } = e.1.1 ∙ ap (λ (s : holds.Standing). ready_for s cell e.1.0) single in
        record {
          standing = ap (λ (c : Cell). c.standing) is;
          writing = inr (sym (own_alone cell (going.alone second.position)) ∙ index_unwritten old.hold new second.position may.1 e.0, (e.1.0, ap (λ (c : Cell). c.writing) is));
        }

abbrev Lifts : Second → List ℕ → List Event → Type 0
Lifts second block events = (old : Planned) → AreSilent events → IsPlanned old events → IsGoing second old → IsLifted second block events old

lift_step : (second : Second) (block : List ℕ) (events : List Event) (old : Planned) → Lifts second block events → (event : Event) → AreSilent events → IsStep second block event old → (planned_after old event).hold.size ≡ old.hold.size → IsPlanned (planned_after old event) events
    → IsLifted second block (event ∷ events) old
lift_step second block events old lifts event silent step size later =
    let rest : IsLifted second block events (planned_after old event) = lifts (planned_after old event) silent later step.going in
    record {
      planned = (step.may, subst (λ (x : Planned). IsPlanned x events) (sym step.same) rest.planned);
      at = ap (λ (x : Planned). planned_at x events) step.same ∙ rest.at;
      going = rest.going;
      after = after_twice (cell_at old.hold.cells second.position) (cell_at (planned_after old event).hold.cells second.position) (cell_at (planned_at (planned_after old event) events).hold.cells second.position) step.after rest.after;
      size = rest.size ∙ size;
    }

pub lift : (second : Second) (block : List ℕ) (events : List Event) (old : Planned) → AreSilent events → IsPlanned old events → IsGoing second old → IsLifted second block events old
lift second block [] old silent planned going = record { planned = tt; at = refl; going = going; after = record { standing = refl; writing = inl refl }; size = refl }
lift second block (Restores i put ∷ events) old silent planned going =
    lift_step second block events old (λ next s m g. lift second block events next s m g) (Restores i put) silent.1 (restores_step second block i put old going planned.0) refl planned.1
lift second block (Computes new ∷ events) old silent planned going =
    lift_step second block events old (λ next s m g. lift second block events next s m g) (Computes new) silent.1 (computes_step second block new old going planned.0) refl planned.1
lift second block (Asks i ∷ events) old silent planned going = absurd silent.0
lift second block (Fixes i put ∷ events) old silent planned going = absurd silent.0
lift second block (AsksAgain i ∷ events) old silent planned going = absurd silent.0
lift second block (Writes i put ∷ events) old silent planned going = absurd silent.0
lift second block (Copies i put ∷ events) old silent planned going = absurd silent.0
lift second block (Gives i put ∷ events) old silent planned going = absurd silent.0
lift second block (Fails i ∷ events) old silent planned going = absurd silent.0
lift second block (Confirms i ∷ events) old silent planned going = absurd silent.0
lift second block (Mends i ∷ events) old silent planned going = absurd silent.0
lift second block (Settles i ∷ events) old silent planned going = absurd silent.0
lift second block (Loses i ∷ events) old silent planned going = absurd silent.0
lift second block (Moves i ∷ events) old silent planned going = absurd silent.0
lift second block (Drops i ∷ events) old silent planned going = absurd silent.0

pub record IsPreparedBoth (second : Second) (block : List ℕ) (old new : Planned) : Type 0 where
  pub prepares : Prepares (planned_both second block old) (planned_both second block new)
  pub going : IsGoing second new
  pub after : IsAfter (cell_at old.hold.cells second.position) (cell_at new.hold.cells second.position)
  pub size : new.hold.size ≡ old.hold.size

pub prepares_both : (second : Second) (block : List ℕ) (old new : Planned) → Prepares old new → IsGoing second old → IsPreparedBoth second block old new
prepares_both second block old new prepares going =
    let events : List Event = prepares.0 in
    let lifted : IsLifted second block events old = lift second block events old prepares.1 prepares.2 going in
    let same : planned_at old events ≡ new = prepares.3 in
    record {
      prepares = (events, prepares.1, lifted.planned, lifted.at ∙ ap (planned_both second block) same);
      going = subst (IsGoing second) same lifted.going;
      after = subst (λ (x : Planned). IsAfter (cell_at old.hold.cells second.position) (cell_at x.hold.cells second.position)) same lifted.after;
      size = ap (λ (x : Planned). x.hold.size) (sym same) ∙ lifted.size;
    }

-- no write to the second device is due
pub no_copy : (second : Second) (block : List ℕ) (planned : Planned) → IsGoing second planned → is_due second ≡ false →
    plans.is_next_copy (planned_both second block planned).hold second.position ≡ false
no_copy second block planned going due =
    ap (λ (c : Cell). not (is_out c.standing) && plans.is_first_sent c.second c.writing && plans.is_ready c.copying) (here second block planned.hold going.alone (twin second block planned going))
    ∙ by_both second.state second.copy going.steady.untargeted due
  where
    cell : Cell
    cell = cell_at planned.hold.cells second.position

    none : (a b : Bool) → (not a && b && false) ≡ false
    none true b = refl
    none false true = refl
    none false false = refl

    lost : (a b : Bool) → (not a && false && b) ≡ false
    lost true b = refl
    lost false b = refl

    together : (a : Bool) (w : Writing) → (not a && (not (is_unwritten w) && not (plans.is_ready w)) && plans.is_ready w) ≡ false
    together true w = refl
    together false Unwritten = refl
    together false (Ready b) = refl
    together false Sent = refl
    together false Confirmed = refl

    by_both : (s : Standing) (c : CopyState) → s ≢ state.Target → (is_in_sync (standing_of s) && is_ready c) ≡ false →
        (not (is_out cell.standing) && plans.is_first_sent (standing_of s) cell.writing && plans.is_ready (copying_of c cell.writing block)) ≡ false
    by_both state.Target c h e = absurd (h refl)
    by_both state.Out c h e = lost (is_out cell.standing) (plans.is_ready (copying_of c cell.writing block))
    by_both state.InSync copy.Unwritten h e = none (is_out cell.standing) (plans.is_first_sent InSync cell.writing)
    by_both state.InSync copy.Following h e = together (is_out cell.standing) cell.writing
    by_both state.InSync copy.Ready h e = absurd cc
    by_both state.InSync copy.Sent h e = none (is_out cell.standing) (plans.is_first_sent InSync cell.writing)
    by_both state.InSync copy.Confirmed h e = none (is_out cell.standing) (plans.is_first_sent InSync cell.writing)
