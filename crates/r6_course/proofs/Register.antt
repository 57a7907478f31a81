-- Calls at the register: others', and the shard's own.
use Rattle.std.proofs.Common.{◌≡◌, ◌≢◌, ℕ, ◌⊎◌, List, [], ◌∷◌, ◌++◌, append_assoc, inl, inr, refl, sym, ap, subst, ◌∙◌, Ok, Err}
use Rattle.std.proofs.lemmas.List.{append-nil, append_cancel_right}
use Rattle.std.proofs.lemmas.List.Elements.{All-head, All-tail}
use Rattle.r6_health.specs.declared.history.HistoryEntry.{HistoryEntry}
use Rattle.r6_health.specs.declared.history.View.{View}
use Rattle.r6_health.specs.declared.history.Start.{Start as Beginning}
use Rattle.r6_health.specs.Registers as health
use Rattle.r6_health.specs.Histories.{made, held_after, held, IsLegalAfter, IsLegal, entry, answer_in, calls_by}
use Rattle.r6_health.specs.Views.{Looks, Refused}
use Rattle.r6_health.proofs.Histories.{held_after-push, calls_by-push_own}
use Rattle.r6_world.specs.Registers.{Snapshot, RegisterCall, Refusal, Contended, Told as Answer, answer_to, register_after}
use Rattle.r6_world.specs.ShardStates.{Shard, Call}
use Rattle.r6_world.specs.Steps.{Take_call, Told, Step}
use Rattle.r6_world.specs.Worlds.{Tell, Outside, Moment, IsAnswer, Possible, as_made, next}
use Rattle.r6_world.specs.Laws.{IsByAnyone}
use Rattle.r6_world.proofs.Tables.{put-same}
use Rattle.r6_course.specs.Courses.{Start, IsLawful, Stand, Follows}
use Rattle.r6_course.specs.Seen.{Sees}
use Rattle.r6_course.specs.Steps.{Knows, seen_by, OthersGoOn, TellingGoesOn}
use Rattle.r6_course.proofs.Sees.{IsOfAnother, AreOfOthers, none-between}
use Rattle.r6_course.proofs.Reached.{reach, reach-looked, reach-named, reach-left, reach-entry}
use Rattle.r6_course.proofs.Calls.{shown, shown-tells}

-- ---- histories in two parts

held-append : (shards : ℕ) (now : Snapshot) (a b : List HistoryEntry)
    → held_after shards now (a ++ b) ≡ held_after shards (held_after shards now a) b
held-append shards now [] b = refl
held-append shards now (e ∷ a) b = held-append shards (health.after shards now e.call) a b

legal-front : (slots shards : ℕ) (now : Snapshot) (a b : List HistoryEntry) → IsLegalAfter slots shards now (a ++ b)
    → IsLegalAfter slots shards now a
legal-front slots shards now [] b legal = tt
legal-front slots shards now (e ∷ a) b legal = (legal.0, legal-front slots shards (health.after shards now e.call) a b legal.1)

legal-behind : (slots shards : ℕ) (now : Snapshot) (a b : List HistoryEntry) → IsLegalAfter slots shards now (a ++ b)
    → IsLegalAfter slots shards (held_after shards now a) b
legal-behind slots shards now [] b legal = legal
legal-behind slots shards now (e ∷ a) b legal = legal-behind slots shards (health.after shards now e.call) a b legal.1

-- ---- calls of others

outside : (s : Start) (at : Stand) → Follows s at → (e : HistoryEntry) → e.by ≢ at.by
    → answer_to s.layout at.register e.call ≡ Ok e.answer
    → Follows s (record at { log = at.log ++ e ∷ []; register = health.after s.layout.shards at.register e.call })
outside s at x e other answered =
    let l = s.layout in
    let w = x.world in
    let m : Moment = shown w (Outside e.call) l in
    record {
      world = next l w m;
      reached = reach s w at.history x.reached m (record {}) (record {});
      shard = x.shard;
      register = ap (λ y. register_after l y e.call (answer_to l y e.call)) x.register ∙ ap (register_after l at.register e.call) answered;
      looked = reach-looked s w at.history x.reached m _ _ at.looked x.looked;
      sees = reach-entry s w at.history x.reached m _ _ at.by at.log e x.sees (other, refl);
      named = reach-named s w at.history x.reached m _ _ at.named x.named;
      in_flight = x.in_flight;
      parts = λ slot g telling there ok.
          shown-tells s w (Outside e.call) (λ slot g row. refl) slot g telling (x.parts slot g telling there ok);
    }

outsides : (s : Start) (at : Stand) (entries : List HistoryEntry)
    → IsLegalAfter s.layout.slots s.layout.shards at.register entries → AreOfOthers at.by entries → Follows s at
    → Follows s (record at { log = at.log ++ entries; register = held_after s.layout.shards at.register entries })
outsides s at [] legal others x = subst (λ (y : List HistoryEntry). Follows s (record at { log = y })) (sym (append-nil at.log)) x
outsides s at (e ∷ entries) legal others x =
    subst (λ (y : List HistoryEntry). Follows s (record at { log = y; register = held_after s.layout.shards at.register (e ∷ entries) })) (append_assoc at.log (e ∷ []) entries)
    (outsides s (record at { log = at.log ++ e ∷ []; register = health.after s.layout.shards at.register e.call }) entries legal.1
    (All-tail (IsOfAnother at.by) e entries others) (outside s at x e (All-head (IsOfAnother at.by) e entries others) legal.0))

-- from what was seen to what is seen now
sees : (s : Start) (at : Stand) (st : Beginning) (front rest : List HistoryEntry) → st.slots ≡ s.layout.slots
    → st.shards ≡ s.layout.shards → front ≡ at.log → held st front ≡ at.register
    → IsLegal st (front ++ rest) → AreOfOthers at.by rest → Follows s at
    → Follows s (record at { log = front ++ rest; register = held st (front ++ rest) })
sees s at st front rest slots shards log now legal others x =
    let behind = legal-behind st.slots st.shards st.snapshot front rest legal in
    let moved : IsLegalAfter s.layout.slots s.layout.shards at.register rest =
    subst (λ y. IsLegalAfter s.layout.slots s.layout.shards y rest) now
    (subst (λ y. IsLegalAfter s.layout.slots y (held st front) rest) shards
    (subst (λ y. IsLegalAfter y st.shards (held st front) rest) slots behind)) in
    let same : held_after s.layout.shards at.register rest ≡ held st (front ++ rest) =
    ap (λ y. held_after s.layout.shards y rest) (sym now) ∙ ap (λ y. held_after y (held st front) rest) (sym shards)
    ∙ sym (held-append st.shards st.snapshot front rest) in
    subst (λ (y : Snapshot). Follows s (record at { log = front ++ rest; register = y })) same
    (subst (λ (y : List HistoryEntry). Follows s (record at { log = y ++ rest; register = held_after s.layout.shards at.register rest })) (sym log) (outsides s at rest moved others x))

looks-on : (s : Start) (at : Stand) (v w : View) → Follows s at → Knows s v at.by at.log at.register → Looks v w
    → Follows s (seen_by at w) × Knows s w at.by w.seen (held w.start w.seen)
looks-on s at v w x k look =
    let rest = look.grows.seen in
    let same = look.grows.same_start in
    let name : w.name ≡ at.by = look.grows.name ∙ k.name in
    let own : calls_by at.by w.seen ≡ w.mine = ap (λ y. calls_by y w.seen) (sym name) ∙ look.own in
    let others : AreOfOthers at.by rest.0 =
    none-between at.by v.seen rest.0 v.mine k.own (ap (calls_by at.by) (sym rest.1) ∙ own ∙ look.grows.mine) in
    let legal : IsLegal v.start (v.seen ++ rest.0) = subst (λ y. IsLegal v.start y) rest.1 (subst (λ y. IsLegal y w.seen) same look.legal) in
    let register : held v.start (v.seen ++ rest.0) ≡ held w.start w.seen =
    ap (held v.start) (sym rest.1) ∙ ap (λ y. held y w.seen) (sym same) in (
      subst (λ (y : Snapshot). Follows s (record at { log = w.seen; register = y })) register
          (subst (λ (y : List HistoryEntry). Follows s (record at { log = y; register = held v.start (v.seen ++ rest.0) })) (sym rest.1)
          (sees s at v.start v.seen rest.0 k.slots k.shards k.seen k.now legal others x)),
      record {
        slots = ap (λ (y : Beginning). y.slots) same ∙ k.slots;
        shards = ap (λ (y : Beginning). y.shards) same ∙ k.shards;
        name = name;
        seen = refl;
        now = refl;
        own = own;
      },
    )

pub others_go_on : OthersGoOn
others_go_on s lawful at v w x k look = looks-on s at v w x k look

-- ---- the shard's own call

-- what a call adds to the history that was seen
abbrev pub IsAdded : (s : Start) → Stand → Call → Answer → List HistoryEntry → Type 0
IsAdded s at call (Ok reply) log = log ≡ at.log ++ entry at.by (as_made s.number call) reply ∷ []
IsAdded s at call (Err refusal) log = log ≡ at.log

tells : (s : Start) (lawful : IsLawful s) (at : Stand) → Follows s at
    → (call : Call) (answer : Answer) (log : List HistoryEntry) (middle new : Shard)
    → IsAnswer s.layout at.register (as_made s.number call) answer
    → IsAdded s at call answer log
    → Step s.layout s.number at.shard (Take_call call) middle → Step s.layout s.number middle (Told call answer) new
    → Follows s (record at { shard = new; log = log; register = register_after s.layout at.register (as_made s.number call) answer })
tells s lawful at x call answer log middle new is added takes tells' =
    let l = s.layout in
    let n = s.number in
    let w = x.world in
    let m : Moment = shown w (Tell n call answer middle new) l in
    record {
      world = next l w m;
      reached = reach s w at.history x.reached m (
        lawful.number,
        subst (λ y. IsAnswer l y (as_made n call) answer) (sym x.register) is,
        subst (λ (y : Shard). Step l n y (Take_call call) middle) (sym x.shard) takes,
        tells',
      ) refl;
      shard = put-same w.shard n new n refl;
      register = ap (λ y. register_after l y (as_made n call) answer) x.register;
      looked = reach-looked s w at.history x.reached m _ _ at.looked x.looked;
      sees = seen answer added _;
      named = reach-named s w at.history x.reached m _ _ at.named x.named;
      in_flight = x.in_flight;
      parts = λ slot g telling there ok.
          shown-tells s w (Tell n call answer middle new) (λ slot g row. refl) slot g telling (x.parts slot g telling there ok);
    }
  where
    seen : (answer : Answer) → IsAdded s at call answer log
        → (possible : Possible s.layout IsByAnyone x.world (Tell s.number call answer middle new))
        → Sees s.layout s.number at.by log (reach s x.world at.history x.reached (shown x.world (Tell s.number call answer middle new) s.layout) possible refl).moments
    seen (Ok reply) added possible =
        subst (λ y. Sees s.layout s.number at.by y (reach s x.world at.history x.reached (shown x.world (Tell s.number call (Ok reply) middle new) s.layout) possible refl).moments) (sym added)
        (reach-entry s x.world at.history x.reached (shown x.world (Tell s.number call (Ok reply) middle new) s.layout) possible refl at.by at.log
        (entry at.by (as_made s.number call) reply) x.sees (refl, refl, refl, refl))
    seen (Err refusal) added possible =
        subst (λ y. Sees s.layout s.number at.by y (reach s x.world at.history x.reached (shown x.world (Tell s.number call (Err refusal) middle new) s.layout) possible refl).moments) (sym added)
        (reach-left s x.world at.history x.reached (shown x.world (Tell s.number call (Err refusal) middle new) s.layout) possible refl at.by at.log x.sees refl)

refused-looks : (v w : View) (call : RegisterCall) (refusal : Refusal) → Refused v call refusal w
    → Looks v w × ((refusal ≡ Contended) ⊎ (answer_in w.start (held w.start w.seen) call ≡ Err refusal))
refused-looks v w call Contended r = (r.looks, inl refl)
refused-looks v w call refusal r = (r.0, inr r.1)

answers-there : (s : Start) (st : Beginning) (call : RegisterCall) (register : Snapshot) → st.slots ≡ s.layout.slots
    → st.shards ≡ s.layout.shards
    → answer_in st register call ≡ answer_to s.layout register call
answers-there s st call register slots shards =
    ap (λ y. health.answer y st.shards register call) slots ∙ ap (λ y. health.answer s.layout.slots y register call) shards

pub telling_goes_on : TellingGoesOn
telling_goes_on s lawful at v w call (Ok reply) middle new x k takes tells' e =
    let l = s.layout in
    let n = s.number in
    let made' = as_made n call in
    let name : w.name ≡ at.by = e.name ∙ k.name in
    let front = v.seen ++ e.between in
    let last : HistoryEntry = entry at.by made' reply in
    let seen : w.seen ≡ front ++ last ∷ [] = e.seen ∙ ap (λ y. front ++ entry y made' reply ∷ []) name in
    let legal : IsLegal v.start (front ++ last ∷ []) = subst (λ y. IsLegal v.start y) seen (subst (λ y. IsLegal y w.seen) e.same_start e.legal) in
    let own : calls_by at.by w.seen ≡ w.mine = ap (λ y. calls_by y w.seen) (sym name) ∙ e.own in
    let others : AreOfOthers at.by e.between =
    none-between at.by v.seen e.between v.mine k.own
    (append_cancel_right (calls_by at.by front) v.mine (made made' reply ∷ [])
    (sym (calls_by-push_own at.by front made' reply) ∙ ap (calls_by at.by) (sym seen) ∙ own ∙ e.mine)) in
    let before = sees s at v.start v.seen e.between k.slots k.shards k.seen k.now
    (legal-front v.start.slots v.start.shards v.start.snapshot front (last ∷ []) legal) others x in
    let answer : answer_to l (held v.start front) made' ≡ Ok reply =
    sym (answers-there s v.start made' (held v.start front) k.slots k.shards)
    ∙ (legal-behind v.start.slots v.start.shards v.start.snapshot front (last ∷ []) legal).0 in
    let after' = tells s lawful (record at { log = front; register = held v.start front }) before call (Ok reply) w.seen middle new (inl (sym answer)) seen takes tells' in
    let register : health.after l.shards (held v.start front) made' ≡ held w.start w.seen =
    ap (λ y. health.after y (held v.start front) made') (sym k.shards) ∙ sym (held_after-push v.start.shards v.start.snapshot front last)
    ∙ ap (held v.start) (sym seen) ∙ ap (λ y. held y w.seen) (sym e.same_start) in (
      subst (λ (y : Snapshot). Follows s (record at { shard = new; log = w.seen; register = y })) register after',
      record {
        slots = ap (λ (y : Beginning). y.slots) e.same_start ∙ k.slots;
        shards = ap (λ (y : Beginning). y.shards) e.same_start ∙ k.shards;
        name = name;
        seen = refl;
        now = refl;
        own = own;
      },
    )
telling_goes_on s lawful at v w call (Err refusal) middle new x k takes tells' told =
    let made' = as_made s.number call in
    let r = refused-looks v w made' refusal told in
    let before = looks-on s at v w x k r.0 in
    let is : IsAnswer s.layout (held w.start w.seen) made' (Err refusal) = elim r.1 [
      | inl contended ↦ inr (ap Err contended)
      | inr same ↦ inl (sym same ∙ answers-there s w.start made' (held w.start w.seen) before.1.slots before.1.shards)
    ] in (
      tells s lawful (seen_by at w) before.0 call (Err refusal) w.seen middle new is refl takes tells',
      record { slots = before.1.slots; shards = before.1.shards; name = before.1.name; seen = refl; now = refl; own = before.1.own },
    )
