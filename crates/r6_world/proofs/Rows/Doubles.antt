-- What a hold knows of a position with two devices, whose writes are put out one after the other, and how it keeps that.
use Rattle.std.proofs.Common.{◌≡◌, ◌≢◌, ◌⊎◌, ℕ, Bool, true, false, inl, inr, refl, sym, ap, ◌∙◌, subst, List}
use Rattle.r6_stripe.specs.Holds.{Hold as Course, Cell, Standing, Writing, Doubling, Event, cell_at, doubled, ready_for, after_event, FirstIsSent}
use Rattle.r6_stripe.specs.Holds.Event.{Asks, Fixes, AsksAgain, Restores, Computes, Writes, Copies, Gives, Fails, Confirms, Mends, Settles, Loses, Moves, Drops}
use Rattle.r6_stripe.specs.Holds.Standing.{InSync, Target, Out}
use Rattle.r6_stripe.specs.Holds.Writing.{Ready, Sent, Confirmed}
use Rattle.r6_stripe.specs.Holds.Doubling.{Single, Doubled, Passed}
use Rattle.r6_stripe.proofs.CellsAfter.{Became, cell_after}

abbrev pub IsSent : Writing → Type 0
IsSent writing = (writing ≡ Sent) ⊎ (writing ≡ Confirmed)

-- Once the first of two devices in sync got its write, the position is doubled, and the second one gets it no earlier; and
-- where the position was passed on there is no second device any more
pub record Doubles (cell : Cell) : Type 0 where
  pub sent : cell.second ≡ InSync → IsSent cell.writing → cell.doubling ≢ Single
  pub after_first : cell.second ≡ InSync → cell.copying ≡ Sent → IsSent cell.writing
  pub passed : cell.doubling ≡ Passed → cell.second ≡ Out

-- a write that was put out to a second device: it goes there still, or the position was passed on to that
abbrev pub CopiesTo : (side copy : Bool) → Cell → Type 0
CopiesTo true copy cell = copy ≡ true
CopiesTo false copy cell = copy ≡ true → cell.standing ≡ InSync → cell.doubling ≡ Passed

-- nobody can say which block stands on the device
abbrev pub Uncertain : (side : Bool) → Doubling → Type 0
Uncertain false doubling = doubling ≡ Passed
Uncertain true doubling = doubling ≢ Single

-- what an event's rules say of the cell
abbrev pub Needs : Event → Cell → Type 0
Needs (Asks i) cell = Unit {0}
Needs (Fixes i block) cell = Unit {0}
Needs (AsksAgain i) cell = Unit {0}
Needs (Restores i block) cell = Unit {0}
Needs (Computes new) cell = Unit {0}
Needs (Writes i block) cell = Unit {0}
Needs (Copies i block) cell = FirstIsSent cell.second cell.writing
Needs (Gives i block) cell = Unit {0}
Needs (Fails i) cell = Unit {0}
Needs (Confirms i) cell = cell.writing ≡ Sent
Needs (Mends i) cell = Unit {0}
Needs (Settles i) cell = Unit {0}
Needs (Loses i) cell = Unit {0}
Needs (Moves i) cell = Unit {0}
Needs (Drops i) cell = Unit {0}

ready_sent : (block : List ℕ) → Ready block ≡ Sent → ⊥
ready_sent block e = cc

ready_confirmed : (block : List ℕ) → Ready block ≡ Confirmed → ⊥
ready_confirmed block e = cc

confirmed_sent : Confirmed ≡ Sent → ⊥
confirmed_sent e = cc

doubled_single : Doubled ≡ Single → ⊥
doubled_single e = cc

doubled_passed : Doubled ≡ Passed → ⊥
doubled_passed e = cc

sync_out : (s : Standing) → s ≡ InSync → s ≡ Out → ⊥
sync_out s e e' = absurd (let both : InSync ≡ Out = sym e ∙ e' in cc)

sync_target : (s : Standing) → s ≡ InSync → s ≡ Target → ⊥
sync_target s e e' = absurd (let both : InSync ≡ Target = sym e ∙ e' in cc)

ready-doubles : (second : Standing) (cell : Cell) (block : List ℕ) → cell.second ≡ second → Doubles cell → Doubles (ready_for second cell block)
ready-doubles InSync cell block is d = record { sent = λ sync w. absurd (neither w); after_first = λ sync w. absurd (ready_sent block w); passed = d.passed }
  where
    neither : IsSent (Ready block) → ⊥
    neither (inl e) = ready_sent block e
    neither (inr e) = ready_confirmed block e
ready-doubles Target cell block is d = record { sent = λ sync w. absurd (sync_target cell.second sync is); after_first = λ sync w. absurd (sync_target cell.second sync is); passed = d.passed }
ready-doubles Out cell block is d = record { sent = λ sync w. absurd (sync_out cell.second sync is); after_first = λ sync w. absurd (sync_out cell.second sync is); passed = d.passed }

doubled-passed : (second : Standing) (doubling : Doubling) → doubled second doubling ≡ Passed → (doubling ≡ Passed → second ≡ Out) → second ≡ Out
doubled-passed InSync doubling e d = absurd (doubled_passed e)
doubled-passed Target doubling e d = d e
doubled-passed Out doubling e d = refl

doubled-sent : (second : Standing) (doubling : Doubling) → second ≡ InSync → doubled second doubling ≡ Single → ⊥
doubled-sent InSync doubling is e = doubled_single e
doubled-sent Target doubling is e = sync_target Target is refl
doubled-sent Out doubling is e = sync_out Out is refl

first-sent : (second : Standing) (writing : Writing) → second ≡ InSync → FirstIsSent second writing → IsSent writing
first-sent InSync writing is f = f
first-sent Target writing is f = absurd (sync_target Target is refl)
first-sent Out writing is f = absurd f

doubles-became : (event : Event) (j : ℕ) (before later : Cell) → Became event j before later → Needs event before → Doubles before → Doubles later
doubles-became (Asks i) j before later b needs d = subst Doubles (sym b.1) (record { sent = d.sent; after_first = d.after_first; passed = d.passed })
doubles-became (Fixes i block) j before later b needs d = subst Doubles (sym b.1) (record { sent = d.sent; after_first = d.after_first; passed = d.passed })
doubles-became (AsksAgain i) j before later b needs d = subst Doubles (sym b.1) (record { sent = d.sent; after_first = d.after_first; passed = d.passed })
doubles-became (Restores i block) j before later b needs d = subst Doubles (sym b.1) (record { sent = d.sent; after_first = d.after_first; passed = d.passed })
doubles-became (Computes new) j before later b needs d = subst Doubles (sym b.1.1) (ready-doubles before.second before b.1.0 refl d)
doubles-became (Writes i block) j before later b needs d =
    subst Doubles (sym b.1) (record {
      sent = λ sync w e. doubled-sent before.second before.doubling sync e;
      after_first = λ sync w. inl refl;
      passed = λ e. doubled-passed before.second before.doubling e d.passed;
    })
doubles-became (Copies i block) j before later b needs d =
    subst Doubles (sym b.1) (record { sent = d.sent; after_first = λ sync w. first-sent before.second before.writing sync needs; passed = d.passed })
doubles-became (Gives i block) j before later b needs d = subst Doubles (sym b.1) (record { sent = d.sent; after_first = d.after_first; passed = d.passed })
doubles-became (Fails i) j before later b needs d = subst Doubles (sym b.1) (record { sent = d.sent; after_first = d.after_first; passed = d.passed })
doubles-became (Confirms i) j before later b needs d = subst Doubles (sym b.1) (record { sent = λ sync w. d.sent sync (inl needs); after_first = λ sync w. inr refl; passed = d.passed })
doubles-became (Mends i) j before later b needs d = subst Doubles (sym b.1) (record { sent = d.sent; after_first = d.after_first; passed = d.passed })
doubles-became (Settles i) j before later b needs d =
    subst Doubles (sym b.1) (record { sent = d.sent; after_first = λ sync w. absurd (confirmed_sent w); passed = d.passed })
doubles-became (Loses i) j before later b needs d = subst Doubles (sym b.1) (record { sent = λ sync w. absurd (sync_out Out sync refl); after_first = λ sync w. absurd (sync_out Out sync refl); passed = λ e. refl })
doubles-became (Moves i) j before later b needs d = subst Doubles (sym b.1) (record { sent = λ sync w. absurd (sync_out Out sync refl); after_first = λ sync w. absurd (sync_out Out sync refl); passed = λ e. refl })
doubles-became (Drops i) j before later b needs d = subst Doubles (sym b.1) (record { sent = λ sync w. absurd (sync_out Out sync refl); after_first = λ sync w. absurd (sync_out Out sync refl); passed = λ e. refl })

pub doubles-after : (course : Course) (event : Event) (j : ℕ) → Needs event (cell_at course.cells j) → Doubles (cell_at course.cells j) → Doubles (cell_at (after_event course event).cells j)
doubles-after course event j needs d = elim (cell_after course event j) [
  | inl same ↦ subst Doubles (sym same) d
  | inr became ↦ doubles-became event j _ _ became needs d
]

-- at the one position of an event
pub doubles-at : (course : Course) (event : Event) → ((j : ℕ) → Doubles (cell_at course.cells j)) → (at : ℕ) → Needs event (cell_at course.cells at)
    → ((j : ℕ) → (j ≡ at → ⊥) → cell_at (after_event course event).cells j ≡ cell_at course.cells j) → (j : ℕ) → Doubles (cell_at (after_event course event).cells j)
doubles-at course event d at needs other j = elim (Rattle.std.proofs.lemmas.Bool.cases_eq j at) [
  | inl same ↦ doubles-after course event j (subst (λ k. Needs event (cell_at course.cells k)) (sym same) needs) (d j)
  | inr ne ↦ subst Doubles (sym (other j ne)) (d j)
]

-- a cell of which no more than its blocks is changed
same-copies : (before later : Cell) → later.standing ≡ before.standing → later.doubling ≡ before.doubling → (side copy : Bool) → CopiesTo side copy before → CopiesTo side copy later
same-copies before later s d true copy c = c
same-copies before later s d false copy c = λ e sync. d ∙ c e (sym s ∙ sync)

ready-standing : (second : Standing) (cell : Cell) (block : List ℕ) → ((ready_for second cell block).standing ≡ cell.standing) × ((ready_for second cell block).doubling ≡ cell.doubling)
ready-standing InSync cell block = (refl, refl)
ready-standing Target cell block = (refl, refl)
ready-standing Out cell block = (refl, refl)

doubled-stays : (second : Standing) (doubling : Doubling) → doubling ≡ Passed → second ≡ Out → doubled second doubling ≡ Passed
doubled-stays InSync doubling e out = absurd (sync_out InSync refl out)
doubled-stays Target doubling e out = e
doubled-stays Out doubling e out = e

-- any event but that by which the second device gets the first one's place
abbrev pub IsNoMove : Event → Type 0
IsNoMove (Moves i) = ⊥
IsNoMove event = Unit {0}

copies-became : (event : Event) (j : ℕ) (before later : Cell) → IsNoMove event → Became event j before later → Doubles before → (side copy : Bool) → CopiesTo side copy before → CopiesTo side copy later
copies-became (Asks i) j before later k b d side copy c = same-copies before later (ap (λ (x : Cell). x.standing) b.1) (ap (λ (x : Cell). x.doubling) b.1) side copy c
copies-became (Fixes i block) j before later k b d side copy c = same-copies before later (ap (λ (x : Cell). x.standing) b.1) (ap (λ (x : Cell). x.doubling) b.1) side copy c
copies-became (AsksAgain i) j before later k b d side copy c = same-copies before later (ap (λ (x : Cell). x.standing) b.1) (ap (λ (x : Cell). x.doubling) b.1) side copy c
copies-became (Restores i block) j before later k b d side copy c = same-copies before later (ap (λ (x : Cell). x.standing) b.1) (ap (λ (x : Cell). x.doubling) b.1) side copy c
copies-became (Computes new) j before later k b d side copy c =
    let r = ready-standing before.second before b.1.0 in
    same-copies before later (ap (λ (x : Cell). x.standing) b.1.1 ∙ r.0) (ap (λ (x : Cell). x.doubling) b.1.1 ∙ r.1) side copy c
copies-became (Writes i block) j before later k b d true copy c = c
copies-became (Writes i block) j before later k b d false copy c = λ e sync.
    let was = c e (ap (λ (x : Cell). x.standing) (sym b.1) ∙ sync) in
    ap (λ (x : Cell). x.doubling) b.1 ∙ doubled-stays before.second before.doubling was (d.passed was)
copies-became (Copies i block) j before later k b d side copy c = same-copies before later (ap (λ (x : Cell). x.standing) b.1) (ap (λ (x : Cell). x.doubling) b.1) side copy c
copies-became (Gives i block) j before later k b d side copy c = same-copies before later (ap (λ (x : Cell). x.standing) b.1) (ap (λ (x : Cell). x.doubling) b.1) side copy c
copies-became (Fails i) j before later k b d side copy c = same-copies before later (ap (λ (x : Cell). x.standing) b.1) (ap (λ (x : Cell). x.doubling) b.1) side copy c
copies-became (Confirms i) j before later k b d side copy c = same-copies before later (ap (λ (x : Cell). x.standing) b.1) (ap (λ (x : Cell). x.doubling) b.1) side copy c
copies-became (Mends i) j before later k b d side copy c = same-copies before later (ap (λ (x : Cell). x.standing) b.1) (ap (λ (x : Cell). x.doubling) b.1) side copy c
copies-became (Settles i) j before later k b d side copy c = same-copies before later (ap (λ (x : Cell). x.standing) b.1) (ap (λ (x : Cell). x.doubling) b.1) side copy c
copies-became (Loses i) j before later k b d true copy c = c
copies-became (Loses i) j before later k b d false copy c = λ e sync. absurd (sync_out later.standing sync (ap (λ (x : Cell). x.standing) b.1))
copies-became (Moves i) j before later k b d side copy c = absurd k
copies-became (Drops i) j before later k b d side copy c = same-copies before later (ap (λ (x : Cell). x.standing) b.1) (ap (λ (x : Cell). x.doubling) b.1) side copy c

pub copies-after : (course : Course) (event : Event) (j : ℕ) → IsNoMove event → Doubles (cell_at course.cells j) → (side copy : Bool) → CopiesTo side copy (cell_at course.cells j) → CopiesTo side copy (cell_at (after_event course event).cells j)
copies-after course event j k d side copy c = elim (cell_after course event j) [
  | inl same ↦ subst (CopiesTo side copy) (sym same) c
  | inr became ↦ copies-became event j _ _ k became d side copy c
]

same-uncertain : (side : Bool) (d d' : Doubling) → d' ≡ d → Uncertain side d → Uncertain side d'
same-uncertain side d d' e u = subst (Uncertain side) (sym e) u

doubled-uncertain : (side : Bool) (second : Standing) (d : Doubling) → (d ≡ Passed → second ≡ Out) → Uncertain side d → Uncertain side (doubled second d)
doubled-uncertain false second d p u = doubled-stays second d u (p u)
doubled-uncertain true InSync d p u = λ e. doubled_single e
doubled-uncertain true Target d p u = u
doubled-uncertain true Out d p u = u

uncertain-became : (event : Event) (j : ℕ) (before later : Cell) → IsNoMove event → Became event j before later → Doubles before → (side : Bool) → Uncertain side before.doubling → Uncertain side later.doubling
uncertain-became (Asks i) j before later k b d side u = same-uncertain side _ _ (ap (λ (x : Cell). x.doubling) b.1) u
uncertain-became (Fixes i block) j before later k b d side u = same-uncertain side _ _ (ap (λ (x : Cell). x.doubling) b.1) u
uncertain-became (AsksAgain i) j before later k b d side u = same-uncertain side _ _ (ap (λ (x : Cell). x.doubling) b.1) u
uncertain-became (Restores i block) j before later k b d side u = same-uncertain side _ _ (ap (λ (x : Cell). x.doubling) b.1) u
uncertain-became (Computes new) j before later k b d side u = same-uncertain side _ _ (ap (λ (x : Cell). x.doubling) b.1.1 ∙ (ready-standing before.second before b.1.0).1) u
uncertain-became (Writes i block) j before later k b d side u =
    same-uncertain side _ _ (ap (λ (x : Cell). x.doubling) b.1) (doubled-uncertain side before.second before.doubling d.passed u)
uncertain-became (Copies i block) j before later k b d side u = same-uncertain side _ _ (ap (λ (x : Cell). x.doubling) b.1) u
uncertain-became (Gives i block) j before later k b d side u = same-uncertain side _ _ (ap (λ (x : Cell). x.doubling) b.1) u
uncertain-became (Fails i) j before later k b d side u = same-uncertain side _ _ (ap (λ (x : Cell). x.doubling) b.1) u
uncertain-became (Confirms i) j before later k b d side u = same-uncertain side _ _ (ap (λ (x : Cell). x.doubling) b.1) u
uncertain-became (Mends i) j before later k b d side u = same-uncertain side _ _ (ap (λ (x : Cell). x.doubling) b.1) u
uncertain-became (Settles i) j before later k b d side u = same-uncertain side _ _ (ap (λ (x : Cell). x.doubling) b.1) u
uncertain-became (Loses i) j before later k b d side u = same-uncertain side _ _ (ap (λ (x : Cell). x.doubling) b.1) u
uncertain-became (Moves i) j before later k b d side u = absurd k
uncertain-became (Drops i) j before later k b d side u = same-uncertain side _ _ (ap (λ (x : Cell). x.doubling) b.1) u

pub uncertain-after : (course : Course) (event : Event) (j : ℕ) → IsNoMove event → Doubles (cell_at course.cells j) → (side : Bool) → Uncertain side (cell_at course.cells j).doubling → Uncertain side (cell_at (after_event course event).cells j).doubling
uncertain-after course event j k d side u = elim (cell_after course event j) [
  | inl same ↦ same-uncertain side _ _ (ap (λ (x : Cell). x.doubling) same) u
  | inr became ↦ uncertain-became event j _ _ k became d side u
]

pub doubled-before : (second : Standing) (d : Doubling) → doubled second d ≡ Passed → d ≡ Passed
doubled-before InSync d e = absurd (doubled_passed e)
doubled-before Target d e = e
doubled-before Out d e = e

passed-became : (event : Event) (j : ℕ) (before later : Cell) → IsNoMove event → Became event j before later → later.doubling ≡ Passed → before.doubling ≡ Passed
passed-became (Asks i) j before later k b e = ap (λ (x : Cell). x.doubling) (sym b.1) ∙ e
passed-became (Fixes i block) j before later k b e = ap (λ (x : Cell). x.doubling) (sym b.1) ∙ e
passed-became (AsksAgain i) j before later k b e = ap (λ (x : Cell). x.doubling) (sym b.1) ∙ e
passed-became (Restores i block) j before later k b e = ap (λ (x : Cell). x.doubling) (sym b.1) ∙ e
passed-became (Computes new) j before later k b e = sym (ready-standing before.second before b.1.0).1 ∙ ap (λ (x : Cell). x.doubling) (sym b.1.1) ∙ e
passed-became (Writes i block) j before later k b e = doubled-before before.second before.doubling (ap (λ (x : Cell). x.doubling) (sym b.1) ∙ e)
passed-became (Copies i block) j before later k b e = ap (λ (x : Cell). x.doubling) (sym b.1) ∙ e
passed-became (Gives i block) j before later k b e = ap (λ (x : Cell). x.doubling) (sym b.1) ∙ e
passed-became (Fails i) j before later k b e = ap (λ (x : Cell). x.doubling) (sym b.1) ∙ e
passed-became (Confirms i) j before later k b e = ap (λ (x : Cell). x.doubling) (sym b.1) ∙ e
passed-became (Mends i) j before later k b e = ap (λ (x : Cell). x.doubling) (sym b.1) ∙ e
passed-became (Settles i) j before later k b e = ap (λ (x : Cell). x.doubling) (sym b.1) ∙ e
passed-became (Loses i) j before later k b e = ap (λ (x : Cell). x.doubling) (sym b.1) ∙ e
passed-became (Moves i) j before later k b e = absurd k
passed-became (Drops i) j before later k b e = ap (λ (x : Cell). x.doubling) (sym b.1) ∙ e

-- what is uncertain stays so in the hold, and no position is passed on but by a move
abbrev pub Onward : Course → Course → Type 0
Onward before later =
    ((at : ℕ) (side : Bool) → Uncertain side (cell_at before.cells at).doubling → Uncertain side (cell_at later.cells at).doubling)
    × ((at : ℕ) → (cell_at later.cells at).doubling ≡ Passed → (cell_at before.cells at).doubling ≡ Passed)

pub onward : (course : Course) (event : Event) → IsNoMove event → ((at : ℕ) → Doubles (cell_at course.cells at)) → Onward course (after_event course event)
onward course event k d = (
  (λ at side u. uncertain-after course event at k (d at) side u),
  λ at e. elim (cell_after course event at) [
    | inl same ↦ ap (λ (x : Cell). x.doubling) (sym same) ∙ e
    | inr became ↦ passed-became event at _ _ k became e
  ],
)

pub stays-onward : (course : Course) → Onward course course
stays-onward course = ((λ at side u. u), λ at e. e)
