-- Commands that workers perform: taken now, answered later.
use Rattle.std.proofs.Common.{◌≡◌, ◌≢◌, ℕ, ◌≤◌, List, [], ◌∷◌, ◌++◌, append_assoc, Bool, true, false, if◌then◌else◌, ◌⊎◌, inl, inr, refl, sym, ap, subst, ◌∙◌, arith, Option, Some, None, Err}
use Rattle.std.proofs.lemmas.Bool.{cases_Bool, cases_eq, true≢false, le-leb}
use Rattle.r6_dev.specs.History.{Telling, Misses, Answers}
use Rattle.r6_layout.specs.PlainArray.{Block}
use Rattle.r6_world.specs.Tables.{put}
use Rattle.r6_world.specs.Layouts.{Layout, IsRowOf}
use Rattle.r6_world.specs.Registers.{Snapshot, Fail, NoSuchSlot, answer_to, register_after}
use Rattle.r6_health.specs.Registers.{is_beyond}
use Rattle.r6_world.specs.ShardStates.{Shard, Command, Transfer, Fetch, Store, Storing, handed, is_fetch}
use Rattle.r6_world.specs.Changes.{Change, Learn, Confirm, Give_direct, Fail as FailRead, Set_back, Come_home, Lose, Allowed}
use Rattle.r6_world.specs.Steps as steps
use Rattle.r6_world.specs.Steps.{Event, Deliver, Completion, Good, Error, Read_error, Receipt, Late, Take_command, Takes, Step}
use Rattle.r6_world.specs.Worlds.{World, Happening, Core, Perform, Tell, Outside, Moment, next, MayCome, break, broken_by, unless_fetch, given, performed_on, flown, Brings, IsBrought}
use Rattle.r6_world.specs.Laws.{IsOfShard}
use Rattle.r6_world.proofs.Tables.{put-same, put-other, put-cases, None-not_Some, Some-inj}
use Rattle.r6_world.proofs.Acts.Points.{put_in-same}
use Rattle.r6_course.specs.Courses.{Start, IsLawful, IsError, Mark, Reached, Stand, Tells, Follows}
use Rattle.r6_course.specs.Steps.{Does, OthersAreKept, NamesIt, TakingGoesOn, AnsweringGoesOn, LosingGoesOn, ErringGoesOn}
use Rattle.r6_course.proofs.Reached.{reach, reach-looked, reach-moments, reach-named, reach-left, holds-along, kept}
use Rattle.r6_course.proofs.Calls.{both, shown, tells-alike, calls}
use Rattle.r6_course.proofs.Performing.{unperformed, stands, stands-elsewhere, part-cases, unless, when, broken-was, broken-own}

-- ---- a command is taken

pub taking_goes_on : TakingGoesOn
taking_goes_on s lawful at token c new x step =
    let n = s.number in
    let w = x.world in
    calls s at x (Take_command token c) new lawful.number (record {}) step refl (put at.out token (Some c))
    (λ t d e.
    let flew : put w.flight n (put (w.flight n) token (Some c)) n t ≡ put (w.flight n) token (Some c) t =
    ap (λ (y : ℕ → Option Command). y t) (put-same w.flight n (put (w.flight n) token (Some c)) n refl) in
    elim (put-cases at.out token (Some c) t (Some d) e) [
      | inl p ↦ (
        flew ∙ put-same (w.flight n) token (Some c) t p.0 ∙ p.1,
        ap (w.performed n) p.0 ∙ unperformed s lawful at x token c new step,
      )
      | inr p ↦ let f = x.in_flight t d p.1 in (flew ∙ put-other (w.flight n) token (Some c) t p.0 ∙ f.0, f.1)
    ])

-- ---- a command that is out

-- a completion is that of a command of the shard
outstanding : (l : Layout) (n : ℕ) (s : Shard) (token : ℕ) (completion : Completion) (receipt : Receipt) (change : Change)
    → Takes l s token completion receipt change → Allowed l n s change → (c : Command) × (s.command token ≡ Some c)
outstanding l n s token (Good b) steps.Taken (Learn t c h b') k a = (c, subst (λ y. s.command y ≡ Some c) k.0 a.0)
outstanding l n s token (Good b) steps.Taken (Confirm t c h) k a = (c, subst (λ y. s.command y ≡ Some c) k.0 a.0)
outstanding l n s token (Good b) steps.Taken (Give_direct t c id block b') k a = (c, subst (λ y. s.command y ≡ Some c) k.0 a.0)
outstanding l n s token (Good b) Late (Come_home t c) k a = (c, subst (λ y. s.command y ≡ Some c) k.0 a.0)
outstanding l n s token Error Late (Come_home t c) k a = (c, subst (λ y. s.command y ≡ Some c) k.0 a.0)
outstanding l n s token Error steps.Taken (Lose t c) k a = (c, subst (λ y. s.command y ≡ Some c) k.0 a.0)
outstanding l n s token Read_error Late (Come_home t c) k a = (c, subst (λ y. s.command y ≡ Some c) k.0 a.0)
outstanding l n s token Read_error steps.Taken (Lose t c) k a = (c, subst (λ y. s.command y ≡ Some c) k.0 a.0)
outstanding l n s token Read_error steps.Taken (FailRead t c h) k a = (c, subst (λ y. s.command y ≡ Some c) k.0 a.0)
outstanding l n s token Read_error steps.Taken (Set_back t c id block) k a = (c, subst (λ y. s.command y ≡ Some c) k.0 a.0)
outstanding l n s token completion receipt change k a = absurd k

-- what the shard keeps of it is of the same device and row
record Kept (s : Start) (at : Stand) (x : Follows s at) (token : ℕ) (c : Command) : Type 0 where
  kept-command : Command
  there : (x.world.shard s.number).command token ≡ Some kept-command
  slot : kept-command.slot ≡ c.slot
  generation : kept-command.generation ≡ c.generation
  row : IsRowOf s.layout s.number c.row
  transfer : handed c.transfer ≡ kept-command.transfer

keeps : (s : Start) (lawful : IsLawful s) (at : Stand) (x : Follows s at) (token : ℕ) (c : Command) (completion : Completion) (receipt : Receipt) (new : Shard)
    → at.out token ≡ Some c → Step s.layout s.number at.shard (Deliver token completion receipt) new → Kept s at x token c
keeps s lawful at x token c completion receipt new e step =
    let n = s.number in
    let w = x.world in
    let k = kept s lawful w at.history x.reached in
    let o = outstanding s.layout n at.shard token completion receipt step.0 step.1 step.2 in
    let here : (w.shard n).command token ≡ Some o.0 = ap (λ (y : Shard). y.command token) x.shard ∙ o.1 in
    let same = (k.1.sounds n refl).flies.same token c o.0 (x.in_flight token c e).0 here in
    record {
      kept-command = o.0;
      there = here;
      slot = sym same.slot;
      generation = sym same.generation;
      row = subst (IsRowOf s.layout n) (sym same.row) ((k.1.in_shard n refl).commands token o.0 here);
      transfer = same.transfer;
    }

-- ---- a good completion

-- a call at the register that fails no slot is refused
pub refused-beyond : (l : Layout) (register : Snapshot) (slot : ℕ) → l.slots ≤ slot → answer_to l register (Fail slot) ≡ Err NoSuchSlot
refused-beyond l register slot beyond = rw (is-beyond beyond)
  where
    is-beyond : l.slots ≤ slot → is_beyond l.slots slot ≡ true
    is-beyond e = le-leb l.slots slot e

no-such-slot : (l : Layout) → l.slots ≤ l.slots
no-such-slot l = omega arith

-- and changes nothing there
unchanged : (l : Layout) (register : Snapshot) → register_after l register (Fail l.slots) (answer_to l register (Fail l.slots)) ≡ register
unchanged l register = ap (register_after l register (Fail l.slots)) (refused-beyond l register l.slots (no-such-slot l))

-- meanwhile a broken part may come to hold this block in each row
abbrev decaying : Start → Block → Moment
decaying s block = record { happening = Outside (Fail s.layout.slots); noise = λ d g row. block }

brings : (s : Start) (at : Stand) (x : Follows s at) (c : Command) (before behind : Telling) (block : Block) → IsRowOf s.layout s.number c.row
    → at.part c.slot c.generation ≡ Some before
    → (transfer : Transfer) → Does before transfer c.row block behind
    → Brings transfer (Some (given (next s.layout x.world (decaying s block)).device c transfer)) block
brings s at x c before behind block row there Fetch does =
    ap Some (elim (cases_Bool (x.world.broken s.number c.slot c.generation)) [
      | inl broken ↦
          when (x.world.broken (s.layout.shard_of c.row) c.slot c.generation) block (x.world.device c.slot c.generation c.row)
          (ap (λ y. x.world.broken y c.slot c.generation) row.1 ∙ broken)
      | inr ok ↦
          unless (x.world.broken (s.layout.shard_of c.row) c.slot c.generation) block (x.world.device c.slot c.generation c.row)
          (ap (λ y. x.world.broken y c.slot c.generation) row.1 ∙ ok)
          ∙ read before (x.parts c.slot c.generation before there ok) does
    ])
  where
    read : (t : Telling) → Tells s (x.world.device c.slot c.generation) t → Does t Fetch c.row block behind
        → x.world.device c.slot c.generation c.row ≡ block
    read None tells a = absurd tells
    read (Some blocks) tells a = tells c.row row ∙ sym a.0
brings s at x c before behind block row there (Store b) does = λ e. None-not_Some b (sym e)
brings s at x c before behind block row there Storing does = absurd does

pub answering_goes_on : AnsweringGoesOn
answering_goes_on s lawful at token c block receipt new before behind x e step there does =
    let n = s.number in
    let l = s.layout in
    let w = x.world in
    let k = keeps s lawful at x token c (Good block) receipt new e step in
    let f = x.in_flight token c e in
    let m0 : Moment = decaying s block in
    let w0 = next l w m0 in
    let reached0 : Reached s w0 at.history = reach s w at.history x.reached m0 (record {}) (record {}) in
    let sound : (d g row : ℕ) → l.shard_of row ≡ n → w.broken n d g ≡ false → w0.device d g row ≡ w.device d g row =
    (λ d g row at' ok. unless (w.broken (l.shard_of row) d g) block (w.device d g row) (ap (λ y. w.broken y d g) at' ∙ ok)) in
    let m : Moment = shown w0 (Perform n token c) l in
    let w' = next l w0 m in
    let out : (w0.shard n).command token ≢ None = (λ none. None-not_Some k.kept-command (sym none ∙ k.there)) in
    let reached' : Reached s w' at.history = reach s w0 at.history reached0 m (lawful.number, f.0, out, f.1) refl in
    let gave : w'.performed n token ≡ Some (given w0.device c c.transfer) =
    put_in-same w0.performed n token (Some (given w0.device c c.transfer)) token refl in
    let brought : IsBrought (w'.flight n token) (w'.performed n token) block =
    subst (λ o. IsBrought o (w'.performed n token) block) (sym f.0)
    (subst (λ o. Brings c.transfer o block) (sym gave) (brings s at x c before behind block k.row there c.transfer does)) in
    let m' : Moment = shown w' (Core n (Deliver token (Good block) receipt) new) l in
    let w'' = next l w' m' in
    let ok-was : (slot g : ℕ) → w''.broken n slot g ≡ false → w.broken n slot g ≡ false =
    (λ slot g ok. ap (λ (y : ℕ → ℕ → Bool). y slot g) (sym (put-same w.broken n (w.broken n) n refl)) ∙ ok) in
    let device-is : (slot g row : ℕ) → w''.device slot g row ≡ performed_on w0.device c c.transfer slot g row =
    (λ slot g row. both _ _ ∙ both _ _) in
    let kept-there : (slot g : ℕ) (found : Telling) → w.broken n slot g ≡ false → at.part slot g ≡ Some found → Tells s (w0.device slot g) found =
    (λ slot g found ok there'.
    tells-alike s (w.device slot g) (w0.device slot g) found (λ row in'. sound slot g row in'.1 ok) (x.parts slot g found there' ok)) in
    record {
      world = w'';
      reached = reach s w' at.history reached' m'
          (lawful.number, brought, subst (λ (y : Shard). Step l n y (Deliver token (Good block) receipt) new) (sym x.shard) step) refl;
      shard = put-same w'.shard n new n refl;
      register = unchanged l w.register ∙ x.register;
      looked = reach-looked s w' at.history reached' m' _ _ at.looked
          (reach-looked s w0 at.history reached0 m _ _ at.looked (reach-looked s w at.history x.reached m0 _ _ at.looked x.looked));
      sees = reach-left s w' at.history reached' m' _ _ at.by at.log
          (reach-left s w0 at.history reached0 m _ _ at.by at.log (reach-left s w at.history x.reached m0 _ _ at.by at.log x.sees (no-such-slot s.layout)) refl) refl;
      named = reach-named s w' at.history reached' m' _ _ at.named
          (reach-named s w0 at.history reached0 m _ _ at.named (reach-named s w at.history x.reached m0 _ _ at.named x.named));
      in_flight = λ t d e'. elim (put-cases at.out token None t (Some d) e') [
        | inl p ↦ absurd (None-not_Some d p.1)
        | inr p ↦
            let f' = x.in_flight t d p.1 in (
              ap (λ (y : ℕ → Option Command). y t) (put-same w.flight n (w.flight n) n refl) ∙ f'.0,
              ap (λ (y : ℕ → Option Block). y t) (put-same w.performed n (put (w.performed n) token (Some (given w0.device c c.transfer))) n refl)
                  ∙ put-other (w.performed n) token (Some (given w0.device c c.transfer)) t p.0 ∙ f'.1,
            )
      ];
      parts = λ slot g found there' ok.
          tells-alike s (performed_on w0.device c c.transfer slot g) (w''.device slot g) found (λ row in'. device-is slot g row)
          (elim (part-cases at.part c.slot c.generation behind slot g found there') [
            | inl q ↦
                let here : w.broken n c.slot c.generation ≡ false =
                subst (λ y. w.broken n c.slot y ≡ false) q.1 (subst (λ y. w.broken n y g ≡ false) q.0 (ok-was slot g ok)) in
                subst (λ y. Tells s (performed_on w0.device c c.transfer y g) found) (sym q.0)
                (subst (λ y. Tells s (performed_on w0.device c c.transfer c.slot y) found) (sym q.1)
                (subst (Tells s (performed_on w0.device c c.transfer c.slot c.generation)) q.2
                (stands s w0.device c before behind block c.transfer does (kept-there c.slot c.generation before here there))))
            | inr q ↦
                tells-alike s (w0.device slot g) (performed_on w0.device c c.transfer slot g) found
                (λ row in'. stands-elsewhere w0.device c c.transfer slot g row q.0) (kept-there slot g found (ok-was slot g ok) q.1)
          ]);
    }

-- ---- an error

-- where a command was taken
record WasTaken (n token : ℕ) (c : Command) (moments : List Moment) : Type 0 where
  before : List Moment
  taking : Moment
  behind : List Moment
  is : moments ≡ before ++ taking ∷ behind
  middle : Shard
  taken : taking.happening ≡ Core n (Take_command token c) middle

taken-on : (n token : ℕ) (c : Command) (moments : List Moment) (m : Moment) → WasTaken n token c moments → WasTaken n token c (moments ++ m ∷ [])
taken-on n token c moments m x = record {
  before = x.before;
  taking = x.taking;
  behind = x.behind ++ m ∷ [];
  is = ap (λ y. y ++ m ∷ []) x.is ∙ append_assoc x.before (x.taking ∷ x.behind) (m ∷ []);
  middle = x.middle;
  taken = x.taken;
}

-- what is on its way was taken
AllTaken : ℕ → World → List Moment → Type 0
AllTaken n w moments = (t : ℕ) (c : Command) → w.flight n t ≡ Some c → WasTaken n t c moments

taken-next : (l : Layout) (n : ℕ) (w : World) (before : List Moment) (m : Moment) → IsOfShard n m.happening → AllTaken n w before
    → AllTaken n (next l w m) (before ++ m ∷ [])
unfolding AllTaken
taken-next l n w before m own x = at m.happening refl own
  where
    at : (h : Happening) → m.happening ≡ h → IsOfShard n h → (t : ℕ) (c : Command) → (next l w (record { happening = h; noise = m.noise })).flight n t ≡ Some c
        → WasTaken n t c (before ++ m ∷ [])
    at (Core k event new) is own t c e = by event is (ap (λ (y : ℕ → Option Command). y t) (sym (put-same w.flight k (flown event (w.flight k)) n (sym own))) ∙ e)
      where
        by : (event : Event) → m.happening ≡ Core k event new → flown event (w.flight k) t ≡ Some c → WasTaken n t c (before ++ m ∷ [])
        by (Take_command token d) is e' = elim (put-cases (w.flight k) token (Some d) t (Some c) e') [
          | inl p ↦ record {
            before = before;
            taking = m;
            behind = [];
            is = refl;
            middle = new;
            taken = is ∙ (λ i. Core (own i) (Take_command (sym p.0 i) (Some-inj d c p.1 i)) new);
          }
          | inr p ↦ taken-on n t c before m (x t c (ap (λ y. w.flight y t) (sym own) ∙ p.1))
        ]
        by event is e' = taken-on n t c before m (x t c (ap (λ y. w.flight y t) (sym own) ∙ e'))
    at (Perform k token d) is own t c e = taken-on n t c before m (x t c e)
    at (Tell k call answer middle new) is own t c e = taken-on n t c before m (x t c e)
    at (Outside call) is own t c e = taken-on n t c before m (x t c e)

was-taken : (s : Start) (lawful : IsLawful s) (w : World) (history : List Mark) (x : Reached s w history) (t : ℕ) (c : Command)
    → w.flight s.number t ≡ Some c → WasTaken s.number t c x.moments
unfolding AllTaken
was-taken s lawful w history x =
    (holds-along s lawful (λ w before plain. AllTaken s.number w before) (λ t c e. absurd (None-not_Some c e))
    (λ w before plain m k p possible own k'. taken-next s.layout s.number w before m own p) w history x).2

-- what is whole once something happened was whole before
was-whole : (s : Shard) (event : Event) (parts : ℕ → ℕ → Bool) (slot g : ℕ) → broken_by s event parts slot g ≡ false → parts slot g ≡ false
was-whole s (Deliver token Error receipt) parts slot g e = broken-was (s.command token) parts slot g e
was-whole s (Deliver token Read_error receipt) parts slot g e = broken-was (unless_fetch (s.command token)) parts slot g e
was-whole s event parts slot g e = e

may-come : (w : World) (n token : ℕ) (error : Completion) (receipt : Receipt) → IsError error → MayCome w n (Deliver token error receipt)
may-come w n token (Good b) receipt is = absurd is
may-come w n token Error receipt is = record {}
may-come w n token Read_error receipt is = record {}

-- an error of any kind is delivered: its part tells what it told, unless it is broken then
module _ (s : Start) (lawful : IsLawful s) (at : Stand) (token : ℕ) (c : Command) (error : Completion) (receipt : Receipt) (new : Shard) (is : IsError error)
    (x : Follows s at) (e : at.out token ≡ Some c) (step : Step s.layout s.number at.shard (Deliver token error receipt) new) where
  kept-there : Kept s at x token c
  kept-there = keeps s lawful at x token c error receipt new e step

  abbrev broken-then : (slot g : ℕ) → Bool
  broken-then = broken_by (x.world.shard s.number) (Deliver token error receipt) (x.world.broken s.number)

  errs : (part : ℕ → ℕ → Option Telling) (named : List Bool) → OthersAreKept c.slot c.generation at.part part
      → (broken-then c.slot c.generation ≡ false → part c.slot c.generation ≡ at.part c.slot c.generation) → NamesIt c.slot receipt at.named named
      → Follows s (record at { shard = new; named = named; out = put at.out token None; part = part })
  errs part named others own names =
      let n = s.number in
      let l = s.layout in
      let w = x.world in
      let event = Deliver token error receipt in
      let f = x.in_flight token c e in
      let m : Moment = shown w (Core n event new) l in
      let w' = next l w m in
      let reached' : Reached s w' at.history =
      reach s w at.history x.reached m (lawful.number, may-come w n token error receipt is, subst (λ (y : Shard). Step l n y event new) (sym x.shard) step) refl in
      let now : (slot g : ℕ) → w'.broken n slot g ≡ broken-then slot g =
      (λ slot g. ap (λ (y : ℕ → ℕ → Bool). y slot g) (put-same w.broken n broken-then n refl)) in
      let took = was-taken s lawful w at.history x.reached token c f.0 in
      record {
        world = w';
        reached = reached';
        shard = put-same w.shard n new n refl;
        register = x.register;
        looked = reach-looked s w at.history x.reached m _ _ at.looked x.looked;
        sees = reach-left s w at.history x.reached m _ _ at.by at.log x.sees refl;
        named = λ slot e'. elim (names slot e') [
          | inl old ↦ reach-named s w at.history x.reached m _ _ at.named x.named slot old
          | inr own ↦ record {
            token = token;
            command = c;
            slot_is = sym own.0;
            before = took.before;
            taking = took.taking;
            between = took.behind;
            failing = m;
            behind = [];
            is = reach-moments s w at.history x.reached m _ _ ∙ ap (λ y. y ++ m ∷ []) took.is;
            middle = took.middle;
            taken = took.taken;
            new = new;
            error = error;
            is_error = is;
            failed = ap (λ y. Core n (Deliver token error y) new) own.1;
          }
        ];
        in_flight = λ t d e'. elim (put-cases at.out token None t (Some d) e') [
          | inl p ↦ absurd (None-not_Some d p.1)
          | inr p ↦
              let f' = x.in_flight t d p.1 in
              (ap (λ (y : ℕ → Option Command). y t) (put-same w.flight n (w.flight n) n refl) ∙ f'.0, f'.1)
        ];
        parts = λ slot g found at' ok.
            let whole : broken-then slot g ≡ false = sym (now slot g) ∙ ok in
            let told : part slot g ≡ at.part slot g = (elim (cases_eq slot c.slot) [
              | inr ne ↦ others slot g (λ same. ne same.0)
              | inl same ↦ elim (cases_eq g c.generation) [
                | inr ne ↦ others slot g (λ same. ne same.1)
                | inl same' ↦
                    ap (λ y. part y g) same ∙ ap (part c.slot) same'
                    ∙ own (ap (broken-then c.slot) (sym same') ∙ ap (λ y. broken-then y g) (sym same) ∙ whole)
                    ∙ sym (ap (λ y. at.part y g) same ∙ ap (at.part c.slot) same')
              ]
            ]) in
            tells-alike s (w.device slot g) (w'.device slot g) found (λ row in'. both _ (w.device slot g row))
            (x.parts slot g found (sym told ∙ at') (was-whole (w.shard n) event (w.broken n) slot g whole));
      }

pub losing_goes_on : LosingGoesOn
losing_goes_on s lawful at token c receipt new part named x e step others names =
    let n = s.number in
    let w = x.world in
    let out : Option Command = (w.shard n).command token in
    let k = kept-there s lawful at token c Error receipt new (record {}) x e step in
    let breaks : break out (w.broken n) c.slot c.generation ≡ true =
    ap (λ y. break out (w.broken n) y c.generation) (sym k.slot) ∙ ap (break out (w.broken n) k.kept-command.slot) (sym k.generation)
    ∙ broken-own out k.kept-command (w.broken n) k.there in
    errs s lawful at token c Error receipt new (record {}) x e step part named others (λ ok. absurd (true≢false (sym breaks ∙ ok))) names

-- a command that brings no block is no read
no-read : (c : Command) (transfer : Transfer) → handed transfer ≡ c.transfer → transfer ≢ Fetch → unless_fetch (Some c) ≡ Some c
no-read c Fetch is ne = absurd (ne refl)
no-read c (Store b) is ne = ap (λ y. if is_fetch y then None else Some c) (sym is)
no-read c Storing is ne = ap (λ y. if is_fetch y then None else Some c) (sym is)

is-read : (transfer : Transfer) → (transfer ≡ Fetch) ⊎ (transfer ≢ Fetch)
is-read Fetch = inl refl
is-read (Store b) = inr (λ e. cc)
is-read Storing = inr (λ e. cc)

-- a part that tells what its device has tells the same after a read error
still-told : (s : Start) (device : ℕ → Block) (row : ℕ) (before after : Telling) → Tells s device before → Answers before (Misses row) after
    → after ≡ before
still-told s device row None after tells answers = absurd tells
still-told s device row (Some blocks) after tells answers = answers

pub erring_goes_on : ErringGoesOn
erring_goes_on s lawful at token c receipt new part named x e step others read names =
    let n = s.number in
    let w = x.world in
    let k = kept-there s lawful at token c Read_error receipt new (record {}) x e step in
    let out : Option Command = unless_fetch ((w.shard n).command token) in
    errs s lawful at token c Read_error receipt new (record {}) x e step part named others
    (λ ok. elim (is-read c.transfer) [
      | inl fetches ↦
          let missed = read fetches in
          let whole = was-whole (w.shard n) (Deliver token Read_error receipt) (w.broken n) c.slot c.generation ok in
          let same = still-told s (w.device c.slot c.generation) c.row missed.0 missed.1
          (x.parts c.slot c.generation missed.0 missed.2 whole) missed.4 in
          missed.3 ∙ ap (λ (told : Telling). Some told) same ∙ sym missed.2
      | inr ne ↦
          let there : out ≡ Some k.kept-command = ap unless_fetch k.there ∙ no-read k.kept-command c.transfer k.transfer ne in
          let breaks : break out (w.broken n) c.slot c.generation ≡ true =
          ap (λ y. break out (w.broken n) y c.generation) (sym k.slot) ∙ ap (break out (w.broken n) k.kept-command.slot) (sym k.generation)
          ∙ broken-own out k.kept-command (w.broken n) there in
          absurd (true≢false (sym breaks ∙ ok))
    ]) names
