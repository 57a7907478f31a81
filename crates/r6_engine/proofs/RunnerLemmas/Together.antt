-- Requests that are handed in together.
use Rattle.std.proofs.Common.{◌≡◌, ℕ, ◌+◌, ◌≤◌, suc, List, [], ◌∷◌, ◌++◌, length, get_or, map, take, drop, inl, inr, refl, sym, ap, subst, ◌∙◌, arith, append_assoc, append-nil}
use Rattle.std.specs.List.{AllByRecursion}
use Rattle.std.proofs.lemmas.List.{length-append, length-take-le, take-append-drop}
use Rattle.r6_world.specs.Values.{op_of}
use Rattle.r6_world.specs.declared.values.Op.{Op}
use Rattle.r6_core.specs.declared.refusal.Refusal.{Refusal}
use Rattle.r6_core.specs.declared.submitting.Submitted.{Submitted}
use Rattle.r6_core.specs.Refusals.{most_unanswered}
use Rattle.r6_shard.specs.declared.ledger.Asked.{Asked}
use Rattle.r6_shard.specs.declared.ledger.Asking.{Asking}
use Rattle.r6_shard.specs.declared.performs.Performs.{Ghosts}
use Rattle.r6_shard.specs.declared.shard.Shard.{Shard}
use Rattle.r6_shard.specs.Counted.{PassesNone}
use Rattle.r6_shard.specs.Here.{StaysHere}
use Rattle.r6_shard.specs.Refusing.{Lasts, IsRefusedFor}
use Rattle.r6_shard.specs.Runs.{AreServed}
use Rattle.r6_shard.specs.Shards.{CourseOf}
use Rattle.r6_shard.specs.Sound.{StaysSound}
use Rattle.r6_shard.specs.Together.{SubmitsAll, all_asked, all_asking}
use Rattle.r6_shard.specs.Whole.{Remembers}
use Rattle.r6_shard.proofs.Lasting.{lasts_none, lasts_on}
use Rattle.r6_shard.proofs.Ledgers.{one-refused, served-on}
use Rattle.r6_shard.proofs.Taken.{all-accepted, all-right}
use Rattle.r6_shard.proofs.Together.{as-many-asked, front-asked}
use Rattle.r6_engine.specs.declared.runner.due.Due.{Due}
use Rattle.r6_engine.specs.declared.runner.due.Duty.TheVariants as duties
use Rattle.r6_engine.specs.runner.Tasks.{due_requests, due_scrubs}
use Rattle.r6_engine.specs.runner.Together.{AreAmong, HandsOver, all_due}

-- ---- what is due

pub more-due : (waits : ℕ) (events : List ℕ) (ops : List Op) (event : ℕ) (o : Op) → length ops ≡ length events
    → all_due waits (events ++ event ∷ []) (ops ++ o ∷ []) ≡ all_due waits events ops ++ record { event = event; waits = waits; duty = duties.Serve o } ∷ []
more-due waits [] [] event o same = refl
more-due waits [] (p ∷ ops) event o same = absurd (omega (arith, same))
more-due waits (e ∷ events) [] event o same = absurd (omega (arith, same))
more-due waits (e ∷ events) (p ∷ ops) event o same =
    ap (λ xs. record { event = e; waits = waits; duty = duties.Serve p } ∷ xs) (more-due waits events ops event o (omega (arith, same)))

pub requests-due : (waits : ℕ) (events : List ℕ) (ops : List Op) (rest : List Due) → due_requests (all_due waits events ops ++ rest) ≡ all_asking events ops ++ due_requests rest
requests-due waits [] ops rest = refl
requests-due waits (event ∷ events) [] rest = refl
requests-due waits (event ∷ events) (o ∷ ops) rest = ap (λ xs. record { event = event; op = o } ∷ xs) (requests-due waits events ops rest)

pub passes-due : (waits : ℕ) (events : List ℕ) (ops : List Op) (rest : List Due) → due_scrubs (all_due waits events ops ++ rest) ≡ due_scrubs rest
passes-due waits [] ops rest = refl
passes-due waits (event ∷ events) [] rest = refl
passes-due waits (event ∷ events) (o ∷ ops) rest = passes-due waits events ops rest

pub as-many-due : (waits : ℕ) (events : List ℕ) (ops : List Op) → length ops ≡ length events → length (all_due waits events ops) ≡ length ops
as-many-due waits [] [] same = refl
as-many-due waits [] (o ∷ ops) same = absurd (omega (arith, same))
as-many-due waits (event ∷ events) [] same = refl
as-many-due waits (event ∷ events) (o ∷ ops) same = ap suc (as-many-due waits events ops (omega (arith, same)))

-- ---- with their events

asking-both : (events more : List ℕ) (ops later : List Op) → length ops ≡ length events
    → all_asking (events ++ more) (ops ++ later) ≡ all_asking events ops ++ all_asking more later
asking-both [] more [] later same = refl
asking-both [] more (o ∷ ops) later same = absurd (omega (arith, same))
asking-both (event ∷ events) more [] later same = absurd (omega (arith, same))
asking-both (event ∷ events) more (o ∷ ops) later same = ap (λ xs. record { event = event; op = o } ∷ xs) (asking-both events more ops later (omega (arith, same)))

among-later : (asked : List Asked) (events more : List ℕ) → AreAmong asked more → AreAmong asked (events ++ more)
among-later [] events more x = tt
among-later (a ∷ asked) [] more x = x
among-later (a ∷ asked) (event ∷ events) more x = inr (among-later (a ∷ asked) events more x)

among-both : (asked later : List Asked) (events more : List ℕ) → AreAmong asked events → AreAmong later more → AreAmong (asked ++ later) (events ++ more)
among-both [] later events more x y = among-later later events more y
among-both (a ∷ asked) later [] more x y = absurd x
among-both (a ∷ asked) later (event ∷ events) more x y = elim x [
  | inl own ↦ inl (own.0, among-both asked later events more own.1 y)
  | inr other ↦ inr (among-both (a ∷ asked) later events more other y)
]

-- what is known of all events is known of theirs
pub known-among : (Q : ℕ → Type 0) (asked : List Asked) (events : List ℕ) → AreAmong asked events → AllByRecursion Q events → AllByRecursion (λ (a : Asked). Q a.event) asked
known-among Q [] events x all = tt
known-among Q (a ∷ asked) [] x all = absurd x
known-among Q (a ∷ asked) (event ∷ events) x all = elim x [
  | inl own ↦ (subst Q (sym own.0) all.0, known-among Q asked events own.1 all.1)
  | inr other ↦ known-among Q (a ∷ asked) events other all.1
]

asked-among : (answered : ℕ) (events : List ℕ) (ops : List Op) → AreAmong (all_asked answered events ops) events
asked-among answered [] ops = tt
asked-among answered (event ∷ events) [] = tt
asked-among answered (event ∷ events) (o ∷ ops) = inl (refl, asked-among answered events ops)

asked-answered : (answered : ℕ) (events : List ℕ) (ops : List Op) → AllByRecursion (λ (a : Asked). a.answered ≡ answered) (all_asked answered events ops)
asked-answered answered [] ops = tt
asked-answered answered (event ∷ events) [] = tt
asked-answered answered (event ∷ events) (o ∷ ops) = (refl, asked-answered answered events ops)

all-both : (Q : Asked → Type 0) (asked later : List Asked) → AllByRecursion Q asked → AllByRecursion Q later → AllByRecursion Q (asked ++ later)
all-both Q [] later x y = y
all-both Q (a ∷ asked) later x y = (x.0, all-both Q asked later x.1 y)

-- ---- handed in

pub none-handed : {P : Type 0} {g : Ghosts P} (shard : Shard P g) (refused : List (ℕ × Refusal)) → HandsOver [] [] shard refused shard refused
none-handed shard refused = record {
  asked = [];
  taken = [];
  others = [];
  asked_is = sym (append-nil shard.asked.items);
  refused_is = sym (append-nil refused);
  count = refl;
  answered = tt;
  among = tt;
  course = λ s before h. subst (λ ops. CourseOf s ops shard) (sym (append-nil before)) h;
  served = λ begun before h.
      subst (λ askings. AreServed shard.core askings shard.asked.items (before ++ []) refused) (sym (append-nil begun))
      (subst (λ ops. AreServed shard.core begun shard.asked.items ops refused) (sym (append-nil before)) h);
  lasts = lasts_none shard.core;
  remembers = λ clean. clean;
  sound = λ shape number slot h. h;
  here = λ slot h. h;
  passed = λ stopped counted rows h. h;
  entries = refl;
  room = refl;
  pass = refl;
  parts = refl;
}

refused-handed : {P : Type 0} {g : Ghosts P} (shard : Shard P g) (refused : List (ℕ × Refusal)) (event : ℕ) (o : Op) (refusal : Refusal) → IsRefusedFor shard.core o refusal
    → HandsOver (event ∷ []) (o ∷ []) shard refused shard (refused ++ (event, refusal) ∷ [])
refused-handed shard refused event o refusal reason =
    let asking : Asking = record { event = event; op = o } in
    record {
      asked = [];
      taken = [];
      others = (event, refusal) ∷ [];
      asked_is = sym (append-nil shard.asked.items);
      refused_is = refl;
      count = refl;
      answered = tt;
      among = tt;
      course = λ s before h. subst (λ ops. CourseOf s ops shard) (sym (append-nil before)) h;
      served = λ begun before h.
          subst (λ ops. AreServed shard.core (begun ++ asking ∷ []) shard.asked.items ops (refused ++ (event, refusal) ∷ [])) (sym (append-nil before))
          (one-refused shard.core begun asking shard.asked.items before refused refusal reason h);
      lasts = lasts_none shard.core;
      remembers = λ clean. clean;
      sound = λ shape number slot h. h;
      here = λ slot h. h;
      passed = λ stopped counted rows h. h;
      entries = refl;
      room = refl;
      pass = refl;
      parts = refl;
    }

-- what a call keeps, however many it takes
pub record Keeps {P : Type 0} {g : Ghosts P} (old new : Shard P g) : Type 0 where
  pub lasts : Lasts old.core new.core
  pub remembers : Remembers old.named old.saw_out new.named new.saw_out
  pub sound : StaysSound old new
  pub here : StaysHere old new
  pub passed : PassesNone old.core new.core

taken-handed : {P : Type 0} {g : Ghosts P} (events : List ℕ) (ops left : List Op) (old : Shard P g) (submitted : Submitted) (new : Shard P g) (refused : List (ℕ × Refusal))
    (s : SubmitsAll events ops left old submitted new) → Keeps old new → (front back : List ℕ) → events ≡ front ++ back → length front ≡ length s.submits.taken
    → HandsOver front s.submits.taken old refused new refused
taken-handed events ops left old submitted new refused s keeps front back split same =
    let taken = s.submits.taken in
    let n = length old.entries.items in
    let asked : new.asked.items ≡ old.asked.items ++ all_asked n front taken =
    s.asked ∙ ap (λ xs. old.asked.items ++ all_asked n xs taken) split ∙ ap (λ xs. old.asked.items ++ xs) (front-asked n front back taken same) in
    record {
      asked = all_asked n front taken;
      taken = map op_of taken;
      others = [];
      asked_is = asked;
      refused_is = sym (append-nil refused);
      count = (let many = as-many-asked n front taken (omega (arith, same)) in omega (arith, many));
      answered = asked-answered n front taken;
      among = asked-among n front taken;
      course = s.course;
      served = λ begun before h.
          subst (λ xs. AreServed new.core (begun ++ all_asking front taken) xs (before ++ map op_of taken) refused) (sym asked)
          (served-on old.core new.core (begun ++ all_asking front taken) (old.asked.items ++ all_asked n front taken) (before ++ map op_of taken) refused keeps.lasts
          (all-accepted old.core begun old.asked.items before refused n front taken (omega (arith, same)) (all-right old.core taken s.submits.right) h));
      lasts = keeps.lasts;
      remembers = keeps.remembers;
      sound = keeps.sound;
      here = keeps.here;
      passed = keeps.passed;
      entries = s.entries;
      room = s.room;
      pass = s.pass;
      parts = s.parts;
    }

hands-then : {P : Type 0} {g : Ghosts P} (events more : List ℕ) (ops later : List Op) (old mid new : Shard P g) (refused refused' refused'' : List (ℕ × Refusal))
    → length ops ≡ length events → HandsOver events ops old refused mid refused' → HandsOver more later mid refused' new refused''
    → HandsOver (events ++ more) (ops ++ later) old refused new refused''
hands-then events more ops later old mid new refused refused' refused'' same x y =
    let A = all_asking events ops in
    let B = all_asking more later in
    record {
      asked = x.asked ++ y.asked;
      taken = x.taken ++ y.taken;
      others = x.others ++ y.others;
      asked_is = y.asked_is ∙ ap (λ xs. xs ++ y.asked) x.asked_is ∙ append_assoc old.asked.items x.asked y.asked;
      refused_is = y.refused_is ∙ ap (λ xs. xs ++ y.others) x.refused_is ∙ append_assoc refused x.others y.others;
      count = let asked = length-append x.asked y.asked in
          let others = length-append x.others y.others in
          let all = length-append ops later in omega (arith, asked, others, all, x.count, y.count);
      answered = all-both (λ a. a.answered ≡ length old.entries.items) x.asked y.asked x.answered
          (subst (λ (n : ℕ). AllByRecursion (λ (a : Asked). a.answered ≡ n) y.asked) (ap length x.entries) y.answered);
      among = among-both x.asked y.asked events more x.among y.among;
      course = λ s before h. subst (λ ops. CourseOf s ops new) (append_assoc before x.taken y.taken) (y.course s (before ++ x.taken) (x.course s before h));
      served = λ begun before h.
          subst (λ askings. AreServed new.core askings new.asked.items (before ++ (x.taken ++ y.taken)) refused'')
          (append_assoc begun A B ∙ ap (λ xs. begun ++ xs) (sym (asking-both events more ops later same)))
          (subst (λ ops. AreServed new.core ((begun ++ A) ++ B) new.asked.items ops refused'') (append_assoc before x.taken y.taken)
          (y.served (begun ++ A) (before ++ x.taken) (x.served begun before h)));
      lasts = lasts_on old.core mid.core new.core x.lasts y.lasts;
      remembers = λ clean. x.remembers (y.remembers clean);
      sound = λ shape number slot h. y.sound shape number slot (x.sound shape number slot h);
      here = λ slot h. y.here slot (x.here slot h);
      passed = λ stopped counted rows h. y.passed stopped counted rows (x.passed stopped counted rows h);
      entries = y.entries ∙ x.entries;
      room = y.room ∙ x.room;
      pass = y.pass ∙ x.pass;
      parts = y.parts ∙ x.parts;
    }

-- ---- until none is left

-- these were handed in, and those are left, with their events
pub record IsHanding {P : Type 0} {g : Ghosts P} (events : List ℕ) (ops : List Op) (old : Shard P g) (refused : List (ℕ × Refusal)) (events' : List ℕ) (ops' : List Op)
    (new : Shard P g) (refused' : List (ℕ × Refusal)) : Type 0 where
  pub numbers : List ℕ
  pub begun : List Op
  pub events_are : events ≡ numbers ++ events'
  pub ops_are : ops ≡ begun ++ ops'
  pub as_many : length begun ≡ length numbers
  pub hands : HandsOver numbers begun old refused new refused'

pub first-handing : {P : Type 0} {g : Ghosts P} (events : List ℕ) (ops : List Op) (shard : Shard P g) (refused : List (ℕ × Refusal)) → IsHanding events ops shard refused events ops shard refused
first-handing events ops shard refused =
    record { numbers = []; begun = []; events_are = refl; ops_are = refl; as_many = refl; hands = none-handed shard refused }

-- there is room for those that are left
pub record HasRoom {P : Type 0} {g : Ghosts P} (left capacity : ℕ) (shard : Shard P g) (refused : List (ℕ × Refusal)) : Type 0 where
  pub few : shard.core.unanswered + left ≤ most_unanswered
  pub room : length shard.asked.items + left ≤ shard.room
  pub refused_room : length refused + left ≤ capacity

pub still-handing : {P : Type 0} {g : Ghosts P} (events : List ℕ) (ops : List Op) (old : Shard P g) (refused : List (ℕ × Refusal)) (events' : List ℕ) (ops' : List Op)
    (new : Shard P g) (refused' : List (ℕ × Refusal)) (capacity : ℕ) → IsHanding events ops old refused events' ops' new refused'
    → HasRoom (length ops) capacity old refused → HasRoom (length ops') capacity new refused'
still-handing events ops old refused events' ops' new refused' capacity x room =
    let h = x.hands in
    let all = ap length x.ops_are ∙ length-append x.begun ops' in
    let asked = ap length h.asked_is ∙ length-append old.asked.items h.asked in
    let others = ap length h.refused_is ∙ length-append refused h.others in
    let entries = ap length h.entries in
    let before = old.counted in
    let now = new.counted in
    record {
      few = omega (arith, all, asked, entries, before, now, h.count, room.few);
      room = omega (arith, all, asked, h.count, h.room, room.room);
      refused_room = omega (arith, all, others, h.count, room.refused_room);
    }

-- more are handed in
pub then-handing : {P : Type 0} {g : Ghosts P} (events : List ℕ) (ops : List Op) (old : Shard P g) (refused : List (ℕ × Refusal)) (events' more rest : List ℕ) (ops' later left : List Op)
    (mid new : Shard P g) (refused' refused'' : List (ℕ × Refusal)) → IsHanding events ops old refused events' ops' mid refused'
    → events' ≡ more ++ rest → ops' ≡ later ++ left → length later ≡ length more → HandsOver more later mid refused' new refused''
    → IsHanding events ops old refused rest left new refused''
then-handing events ops old refused events' more rest ops' later left mid new refused' refused'' x split split' same y =
    record {
      numbers = x.numbers ++ more;
      begun = x.begun ++ later;
      events_are = x.events_are ∙ ap (λ xs. x.numbers ++ xs) split ∙ sym (append_assoc x.numbers more rest);
      ops_are = x.ops_are ∙ ap (λ xs. x.begun ++ xs) split' ∙ sym (append_assoc x.begun later left);
      as_many = let a = length-append x.numbers more in
          let b = length-append x.begun later in
          let c = x.as_many in omega (arith, a, b, c, same);
      hands = hands-then x.numbers more x.begun later old mid new refused refused' refused'' x.as_many x.hands y;
    }

-- as many as the shard takes
pub taken-handing : {P : Type 0} {g : Ghosts P} (events : List ℕ) (ops : List Op) (old : Shard P g) (refused : List (ℕ × Refusal)) (events' rest : List ℕ) (ops' left : List Op)
    (mid new : Shard P g) (refused' : List (ℕ × Refusal)) (submitted : Submitted) → IsHanding events ops old refused events' ops' mid refused' → length ops' ≡ length events'
    → SubmitsAll events' ops' left mid submitted new → Keeps mid new → rest ≡ drop submitted.count events' → IsHanding events ops old refused rest left new refused'
taken-handing events ops old refused events' rest ops' left mid new refused' submitted x numbered s keeps is =
    let taken = s.submits.taken in
    let front = take submitted.count events' in
    let all = ap length s.submits.split ∙ length-append taken left in
    let count = s.submits.count in
    let many : length front ≡ submitted.count = length-take-le submitted.count events' (omega (arith, all, count, numbered)) in
    let split : events' ≡ front ++ rest = sym (take-append-drop submitted.count events') ∙ ap (λ xs. front ++ xs) (sym is) in
    then-handing events ops old refused events' front rest ops' taken left mid new refused' refused' x split s.submits.split (omega (arith, many, count))
    (taken-handed events' ops' left mid submitted new refused' s keeps front rest split (omega (arith, many, count)))

-- and the one that is refused
pub refused-handing : {P : Type 0} {g : Ghosts P} (events : List ℕ) (ops : List Op) (old : Shard P g) (refused : List (ℕ × Refusal)) (event : ℕ) (rest : List ℕ) (o : Op) (left : List Op)
    (shard : Shard P g) (refused' refused'' : List (ℕ × Refusal)) (refusal : Refusal) (events' : List ℕ) (ops' : List Op)
    → IsHanding events ops old refused events' ops' shard refused' → events' ≡ event ∷ rest → ops' ≡ o ∷ left → IsRefusedFor shard.core o refusal
    → refused'' ≡ refused' ++ (event, refusal) ∷ [] → IsHanding events ops old refused rest left shard refused''
refused-handing events ops old refused event rest o left shard refused' refused'' refusal events' ops' x split split' reason is =
    subst (IsHanding events ops old refused rest left shard) (sym is)
    (then-handing events ops old refused events' (event ∷ []) rest ops' (o ∷ []) left shard shard refused' (refused' ++ (event, refusal) ∷ []) x split split' refl
    (refused-handed shard refused' event o refusal reason))

-- none is left
pub all-handed : {P : Type 0} {g : Ghosts P} (events : List ℕ) (ops : List Op) (old : Shard P g) (refused : List (ℕ × Refusal)) (events' : List ℕ) (ops' : List Op)
    (new : Shard P g) (refused' : List (ℕ × Refusal)) → IsHanding events ops old refused events' ops' new refused' → ops' ≡ [] → length ops' ≡ length events'
    → HandsOver events ops old refused new refused'
all-handed events ops old refused events' ops' new refused' x none numbered =
    let no-event : events' ≡ [] = empty-list events' (let n = ap length none in omega (arith, n, numbered)) in
    let events-are : events ≡ x.numbers = x.events_are ∙ ap (λ xs. x.numbers ++ xs) no-event ∙ append-nil x.numbers in
    let ops-are : ops ≡ x.begun = x.ops_are ∙ ap (λ xs. x.begun ++ xs) none ∙ append-nil x.begun in
    subst (λ es. HandsOver es ops old refused new refused') (sym events-are) (subst (λ os. HandsOver x.numbers os old refused new refused') (sym ops-are) x.hands)
  where
    empty-list : (xs : List ℕ) → length xs ≡ 0 → xs ≡ []
    empty-list [] e = refl
    empty-list (y ∷ xs) e = absurd (omega (arith, e))

-- ---- the same, of equal lists

pub put-handed : {P : Type 0} {g : Ghosts P} (events events' : List ℕ) (ops ops' : List Op) (old new : Shard P g) (refused refused' : List (ℕ × Refusal)) → events ≡ events' → ops ≡ ops'
    → HandsOver events ops old refused new refused' → HandsOver events' ops' old refused new refused'
put-handed events events' ops ops' old new refused refused' e e' x =
    subst (λ es. HandsOver es ops' old refused new refused') e (subst (λ os. HandsOver events os old refused new refused') e' x)

pub first-same : (o p : Op) (xs ys : List Op) → o ∷ xs ≡ p ∷ ys → o ≡ p
first-same o p xs ys e = ap (λ zs. get_or zs 0 o) e
