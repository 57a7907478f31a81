-- Commands that are out stay so with each call but those that take one or bring one back.
use Rattle.std.proofs.Common.{◌≡◌, ◌≢◌, ℕ, ◌+◌, ◌<◌, List, [], ◌∷◌, Bool, true, false, inl, inr, refl, sym, ap, subst, ◌∙◌, arith, Option, Some, None}
use Rattle.std.specs.Prelude.{◌==◌, ◌||◌, ◌&&◌, not}
use Rattle.std.proofs.lemmas.Bool.{true≢false}
use Rattle.r6_layout.specs.Shape.{Shape}
use Rattle.r6_world.specs.Tables.{put}
use Rattle.r6_world.specs.Layouts.{Layout, slot_of}
use Rattle.r6_world.specs.Registers.{Snapshot}
use Rattle.r6_world.specs.ShardStates as world
use Rattle.r6_world.specs.ShardStates.{Shard, SlotState, Missing, Fetch, Store, handed, has_device}
use Rattle.r6_world.specs.Changes.{Change, Accept, Start, Ask, Send, Copy, Learn, Confirm, Come_home, Lose, Adopt, See_failed, Release, Hand_command, Hand_call, Hear, Hand_reply, Skip_turn, after, adopted, without, abandoned_to, abandoned_if, Read_direct, Give_direct, Fix, Ask_again, Fail, Set_back, Move, Give_over, lost_slot, slots_in_error}
use Rattle.r6_world.specs.Steps.{Event, Submit, Submit_all, entered, Deliver, Completion, Good, Error, Read_error, Receipt, Taken, Late, Takes, Take_command, No_command, Take_call, No_call, Told, Take_reply, No_reply, Step, Look, Looks, Turn_started, Turn_skipped, Scans, GoesOn, GivesOver, GoOn, TakesOver, Leads, Through}
use Rattle.r6_world.specs.declared.values.Command.{Command}
use Rattle.r6_world.specs.Values.{world_command}
use Rattle.r6_world.proofs.Tables.{put-same, put-other, put-cases, not_both, None-not_Some, Some-inj}
use Rattle.r6_world.proofs.Changes.{enter-kept, lost-kept}
use Rattle.r6_shard.specs.Kept.{IsOut, AreOut, AllAreTaken, NoneIsOut}
use Rattle.r6_shard.proofs.Steps.{IsBeside}

-- what is there
pub some-there : {X : Type 0} {A : Type 0} (o : Option X) → o ≢ None → ((x : X) → o ≡ Some x → A) → A
some-there None some k = absurd (some refl)
some-there (Some x) some k = k x refl

-- ---- a command that is abandoned goes where it went

-- the command was there, and only whether it is abandoned may differ
record Was (o : Option world.Command) (c : world.Command) : Type 0 where
  command : world.Command
  there : o ≡ Some command
  taken : c.taken ≡ command.taken
  slot : c.slot ≡ command.slot
  generation : c.generation ≡ command.generation

abandoned-was : (b : Bool) (o : Option world.Command) (c : world.Command) → abandoned_if b o ≡ Some c → Was o c
abandoned-was b None c e = absurd (not_both None c refl e)
abandoned-was b (Some d) c e =
    let is = Some-inj _ c e in
    record {
      command = d;
      there = refl;
      taken = ap (λ (y : world.Command). y.taken) (sym is);
      slot = ap (λ (y : world.Command). y.slot) (sym is);
      generation = ap (λ (y : world.Command). y.generation) (sym is);
    }

abandoned-to-was : (b : Bool) (slot : ℕ) (now : SlotState) (o : Option world.Command) (c : world.Command) → abandoned_to b slot now o ≡ Some c → Was o c
abandoned-to-was b slot now None c e = absurd (not_both None c refl e)
abandoned-to-was b slot now (Some d) c e = abandoned-was (b || ((d.slot == slot) && not (has_device now d.generation))) (Some d) c e

abandoned-there : (b : Bool) (o : Option world.Command) → o ≢ None → abandoned_if b o ≢ None
abandoned-there b None some e = some refl
abandoned-there b (Some d) some e = None-not_Some _ (sym e)

abandoned-to-there : (b : Bool) (slot : ℕ) (now : SlotState) (o : Option world.Command) → o ≢ None → abandoned_to b slot now o ≢ None
abandoned-to-there b slot now None some e = some refl
abandoned-to-there b slot now (Some d) some e = abandoned-there (b || ((d.slot == slot) && not (has_device now d.generation))) (Some d) some e

module _ (shape : Shape) (number : ℕ) (out : ℕ → Option Command) where
  abbrev Out : (ℕ → Option world.Command) → (next : ℕ) → Type 0
  Out command next = AreOut shape number command next out

  -- one more is put out
  put-out : (command : ℕ → Option world.Command) (next : ℕ) (c : world.Command) → c.taken ≡ false → Out command next
      → Out (put command next (Some c)) (next + 1)
  put-out command next c untaken x =
      record {
        each = λ t d e.
            let o = x.each t d e in
            let ne : t ≢ next = (λ same. some-there (command t) o.there (λ d' e'. let low = x.tokens t d' e' in let is = same in omega arith)) in
            let is = put-other command next (Some c) t ne in
            record {
              there = λ none. o.there (sym is ∙ none);
              same = λ d' e'. o.same d' (sym is ∙ e');
              slot = o.slot;
              row = o.row;
              block = o.block;
            };
        all = λ t d e taken. elim (put-cases command next (Some c) t (Some d) e) [
          | inl p ↦ absurd (true≢false (sym taken ∙ ap (λ (y : world.Command). y.taken) (sym (Some-inj c d p.1)) ∙ untaken))
          | inr p ↦ x.all t d p.1 taken
        ];
        tokens = λ t d e. elim (put-cases command next (Some c) t (Some d) e) [
          | inl p ↦ let at = p.0 in omega arith
          | inr p ↦ let low = x.tokens t d p.1 in omega arith
        ];
      }

  -- some are abandoned
  alike : (command new : ℕ → Option world.Command) (next : ℕ) → ((t : ℕ) (c : world.Command) → new t ≡ Some c → Was (command t) c)
      → ((t : ℕ) → command t ≢ None → new t ≢ None) → Out command next → Out new next
  alike command new next was still x =
      record {
        each = λ t d e.
            let o = x.each t d e in
            record {
              there = still t o.there;
              same = λ c e'.
                  let w = was t c e' in
                  let s = o.same w.command w.there in (w.taken ∙ s.0, w.slot ∙ s.1, w.generation ∙ s.2);
              slot = o.slot;
              row = o.row;
              block = o.block;
            };
        all = λ t c e taken. let w = was t c e in x.all t w.command w.there (sym w.taken ∙ taken);
        tokens = λ t c e. let w = was t c e in x.tokens t w.command w.there;
      }

  -- ---- each change

  -- a change that takes no command and brings none back
  abbrev IsSteady : Change → Type 0
  IsSteady (Hand_command token c) = ⊥
  IsSteady (Give_direct token c id block b) = ⊥
  IsSteady (Learn token c h b) = ⊥
  IsSteady (Confirm token c h) = ⊥
  IsSteady (Come_home token c) = ⊥
  IsSteady (Lose token c) = ⊥
  IsSteady (Fail token c h) = ⊥
  IsSteady (Set_back token c id block) = ⊥
  IsSteady change = record {}

  abbrev OutOf : Shard → Type 0
  OutOf s = Out s.command s.tokens

  module _ (l : Layout) (n : ℕ) where
    out-kept : (s : Shard) (change : Change) → IsSteady change → OutOf s → OutOf (after l s change)
    out-kept s (Ask f h slot g) k x =
        put-out s.command s.tokens (record { frame = f; slot = slot; generation = g; row = h.row; transfer = Fetch; taken = false; abandoned = false; copy = false }) refl x
    out-kept s (Send f h slot g b) k x =
        put-out s.command s.tokens (record { frame = f; slot = slot; generation = g; row = h.row; transfer = Store b; taken = false; abandoned = false; copy = false }) refl x
    out-kept s (Copy f h slot g b) k x =
        put-out s.command s.tokens (record { frame = f; slot = slot; generation = g; row = h.row; transfer = Store b; taken = false; abandoned = false; copy = true }) refl x
    out-kept s (Read_direct buffer id block g) k x =
        put-out s.command s.tokens (record { frame = buffer; slot = slot_of l block; generation = g; row = l.row_of block; transfer = Fetch; taken = false; abandoned = false; copy = false }) refl x
    out-kept s (Fix f h slot g b) k x =
        put-out s.command s.tokens (record { frame = f; slot = slot; generation = g; row = h.row; transfer = Store b; taken = false; abandoned = false; copy = false }) refl x
    out-kept s (Ask_again f h slot g) k x =
        put-out s.command s.tokens (record { frame = f; slot = slot; generation = g; row = h.row; transfer = Fetch; taken = false; abandoned = false; copy = false }) refl x
    out-kept s (Give_over f h) k x =
        lost-kept l OutOf (λ s slot x.
        alike s.command (lost_slot l s slot).command s.tokens (λ t c e. abandoned-to-was _ slot Missing (s.command t) c e)
        (λ t some. abandoned-to-there _ slot Missing (s.command t) some) x) (slots_in_error l h) s x
    out-kept s (Move f h slot g) k x =
        alike s.command (after l s (Move f h slot g)).command s.tokens
        (λ t c e. abandoned-to-was _ slot (without (s.slot slot) g) (s.command t) c e)
        (λ t some. abandoned-to-there _ slot (without (s.slot slot) g) (s.command t) some) x
    out-kept s (Adopt slot status) k x =
        alike s.command (after l s (Adopt slot status)).command s.tokens
        (λ t c e. abandoned-to-was _ slot (adopted (s.slot slot) status) (s.command t) c e)
        (λ t some. abandoned-to-there _ slot (adopted (s.slot slot) status) (s.command t) some) x
    out-kept s See_failed k x =
        alike s.command (after l s See_failed).command s.tokens (λ t c e. abandoned-was true (s.command t) c e)
        (λ t some. abandoned-there true (s.command t) some) x
    out-kept s (Hand_command token c) k x = absurd k
    out-kept s (Give_direct token c id block b) k x = absurd k
    out-kept s (Learn token c h b) k x = absurd k
    out-kept s (Confirm token c h) k x = absurd k
    out-kept s (Come_home token c) k x = absurd k
    out-kept s (Lose token c) k x = absurd k
    out-kept s (Fail token c h) k x = absurd k
    out-kept s (Set_back token c id block) k x = absurd k
    out-kept s change k x = x

    out-along : (Kind : Change → Type 0) → ((change : Change) → Kind change → IsSteady change) → (changes : List Change) (old new : Shard)
        → Leads l n Kind old changes new → OutOf old → OutOf new
    out-along Kind steady [] old new e x = subst OutOf (sym e) x
    out-along Kind steady (change ∷ changes) old new e x =
        out-along Kind steady changes (after l old change) new e.2 (out-kept old change (steady change e.0) x)

    scans-steady : (change : Change) → Scans change → IsSteady change
    scans-steady (Hand_command token c) k = absurd k
    scans-steady (Give_direct token c id block b) k = absurd k
    scans-steady (Learn token c h b) k = absurd k
    scans-steady (Confirm token c h) k = absurd k
    scans-steady (Come_home token c) k = absurd k
    scans-steady (Lose token c) k = absurd k
    scans-steady (Fail token c h) k = absurd k
    scans-steady (Set_back token c id block) k = absurd k
    scans-steady change k = record {}

    goes-steady : (change : Change) → GoesOn change → IsSteady change
    goes-steady (Hand_command token c) k = absurd k
    goes-steady (Give_direct token c id block b) k = absurd k
    goes-steady (Learn token c h b) k = absurd k
    goes-steady (Confirm token c h) k = absurd k
    goes-steady (Come_home token c) k = absurd k
    goes-steady (Lose token c) k = absurd k
    goes-steady (Fail token c h) k = absurd k
    goes-steady (Set_back token c id block) k = absurd k
    goes-steady change k = record {}

    gives-steady : (change : Change) → GivesOver change → IsSteady change
    gives-steady (Move f h slot g) k = record {}
    gives-steady (Give_over f h) k = record {}
    gives-steady change k = absurd k

    takes-over-steady : (seen : Snapshot) (change : Change) → TakesOver seen change → IsSteady change
    takes-over-steady seen (Hand_command token c) k = absurd k
    takes-over-steady seen (Give_direct token c id block b) k = absurd k
    takes-over-steady seen (Learn token c h b) k = absurd k
    takes-over-steady seen (Confirm token c h) k = absurd k
    takes-over-steady seen (Come_home token c) k = absurd k
    takes-over-steady seen (Lose token c) k = absurd k
    takes-over-steady seen (Fail token c h) k = absurd k
    takes-over-steady seen (Set_back token c id block) k = absurd k
    takes-over-steady seen change k = record {}

    pub scanned : (old new : Shard) → Through l n Scans old new → OutOf old → OutOf new
    scanned old new t x = out-along Scans scans-steady t.0 old new t.1 x

    pub gone-on : (old new : Shard) → GoOn l n old new → OutOf old → OutOf new
    gone-on old new t x = out-along GoesOn goes-steady t.2.0 t.0 new t.2.1 (out-along GivesOver gives-steady t.1.0 old t.0 t.1.1 x)

    looked : (failed : Bool) (mid new : Shard) → Looks l n failed mid new → OutOf mid → OutOf new
    looked true mid new p x = subst OutOf (sym p) (out-kept mid See_failed (record {}) x)
    looked false mid new p x = scanned (after l p.0 Release) new p.2 (out-kept p.0 Release (record {}) (gone-on mid p.0 p.1 x))

    pub still-out : (event : Event) → IsBeside event → (old new : Shard) → Step l n old event new → OutOf old → OutOf new
    still-out (Submit op id) k old new st x = scanned (after l old (Accept op)) new st.2 (out-kept old (Accept op) (record {}) x)
    still-out (Submit_all ops first) k old new st x =
        scanned (entered l old ops) new st.2 (enter-kept l n OutOf (λ s op a y. out-kept s (Accept op) (record {}) y) ops old st.1 x)
    still-out (Look seen) k old new st x =
        looked seen.failed st.2 new st.5 (out-along (TakesOver seen) (takes-over-steady seen) st.3.0 old st.2 st.3.1 x)
    still-out (Turn_started task) k old new st x =
        scanned (after l old (Start st.1 st.2 task)) new st.4 (out-kept old (Start st.1 st.2 task) (record {}) x)
    still-out (Turn_skipped task row) k old new st x =
        scanned (after l old (Skip_turn task row)) new st.1 (out-kept old (Skip_turn task row) (record {}) x)
    still-out (Take_command token c) k old new st x = absurd k
    still-out (Deliver token completion receipt) k old new st x = absurd k
    still-out No_command k old new st x = subst OutOf (sym st.1) x
    still-out (Take_call call) k old new st x = subst OutOf (sym st.2) (out-kept old (Hand_call call st.0) (record {}) x)
    still-out No_call k old new st x = subst OutOf (sym st.1) x
    still-out (Told call answer) k old new st x = subst OutOf (sym st.1) (out-kept old (Hear call answer) (record {}) x)
    still-out (Take_reply id reply) k old new st x = subst OutOf (sym st.2) (out-kept old (Hand_reply id st.0 reply) (record {}) x)
    still-out No_reply k old new st x = subst OutOf (sym st.1) x

  -- ---- a command is taken

  pub taken-out : (command : ℕ → Option world.Command) (next : ℕ) (c : Command) (frame : ℕ) (abandoned copy : Bool)
      → command c.token ≡ Some (world_command frame abandoned copy c) → IsOut shape number (put command c.token (Some (record (world_command frame abandoned copy c) { taken = true; transfer = handed (world_command frame abandoned copy c).transfer }))) c.token c
      → Out command next
      → AreOut shape number (put command c.token (Some (record (world_command frame abandoned copy c) { taken = true; transfer = handed (world_command frame abandoned copy c).transfer }))) next (put out c.token (Some c))
  taken-out command next c frame abandoned copy there own x =
      let own-command : world.Command = world_command frame abandoned copy c in
      let at : world.Command = record own-command { taken = true; transfer = handed own-command.transfer } in
      record {
        each = λ t d e. elim (put-cases out c.token (Some c) t (Some d) e) [
          | inl p ↦ subst (λ k. IsOut shape number (put command c.token (Some at)) k d) (sym p.0)
              (subst (IsOut shape number (put command c.token (Some at)) c.token) (Some-inj c d p.1) own)
          | inr p ↦
              let o = x.each t d p.1 in
              let is = put-other command c.token (Some at) t p.0 in
              record {
                there = λ none. o.there (sym is ∙ none);
                same = λ d' e'. o.same d' (sym is ∙ e');
                slot = o.slot;
                row = o.row;
                block = o.block;
              }
        ];
        all = λ t d e taken. elim (put-cases command c.token (Some at) t (Some d) e) [
          | inl p ↦ λ none. None-not_Some c (sym none ∙ put-same out c.token (Some c) t p.0)
          | inr p ↦ λ none. x.all t d p.1 taken (sym (put-other out c.token (Some c) t p.0) ∙ none)
        ];
        tokens = λ t d e. elim (put-cases command c.token (Some at) t (Some d) e) [
          | inl p ↦ subst (λ k. k < next) (sym p.0) (x.tokens c.token own-command there)
          | inr p ↦ x.tokens t d p.1
        ];
      }

  -- ---- one comes back

  come-home : (command : ℕ → Option world.Command) (next token : ℕ) → Out command next
      → AreOut shape number (put command token None) next (put out token None)
  come-home command next token x =
      record {
        each = λ t d e. elim (put-cases out token None t (Some d) e) [
          | inl p ↦ absurd (None-not_Some d p.1)
          | inr p ↦
              let o = x.each t d p.1 in
              let is = put-other command token None t p.0 in
              record {
                there = λ none. o.there (sym is ∙ none);
                same = λ d' e'. o.same d' (sym is ∙ e');
                slot = o.slot;
                row = o.row;
                block = o.block;
              }
        ];
        all = λ t d e taken. elim (put-cases command token None t (Some d) e) [
          | inl p ↦ absurd (None-not_Some d p.1)
          | inr p ↦ λ none. x.all t d p.1 taken (sym (put-other out token None t p.0) ∙ none)
        ];
        tokens = λ t d e. elim (put-cases command token None t (Some d) e) [
          | inl p ↦ absurd (None-not_Some d p.1)
          | inr p ↦ x.tokens t d p.1
        ];
      }

  same-token : (command : ℕ → Option world.Command) (next t token : ℕ) → t ≡ token → Out command next
      → AreOut shape number (put command t None) next (put out token None)
  same-token command next t token same x =
      subst (λ k. AreOut shape number (put command t None) next (put out k None)) same (come-home command next t x)

lost-back : (shape : Shape) (number : ℕ) (out : ℕ → Option Command) (l : Layout) (s : Shard) (t : ℕ) (c : world.Command) (token : ℕ) → t ≡ token
    → AreOut shape number s.command s.tokens out
    → AreOut shape number (after l s (Lose t c)).command (after l s (Lose t c)).tokens (put out token None)
lost-back shape number out l s t c token same x =
    alike shape number (put out token None) (put s.command t None) (after l s (Lose t c)).command s.tokens
    (λ u d e. abandoned-to-was _ c.slot (without (s.slot c.slot) c.generation) (put s.command t None u) d e)
    (λ u some. abandoned-to-there _ c.slot (without (s.slot c.slot) c.generation) (put s.command t None u) some)
    (same-token shape number out s.command s.tokens t token same x)

comes-back : (shape : Shape) (number : ℕ) (out : ℕ → Option Command) (l : Layout) (token : ℕ) (completion : Completion) (receipt : Receipt) (s : Shard) (change : Change)
    → Takes l s token completion receipt change → AreOut shape number s.command s.tokens out
    → AreOut shape number (after l s change).command (after l s change).tokens (put out token None)
comes-back shape number out l token (Good b) Taken s (Learn t c h b') k x = same-token shape number out s.command s.tokens t token k.0 x
comes-back shape number out l token (Good b) Taken s (Confirm t c h) k x = same-token shape number out s.command s.tokens t token k.0 x
comes-back shape number out l token (Good b) Taken s (Give_direct t c id block given) k x = same-token shape number out s.command s.tokens t token k.0 x
comes-back shape number out l token (Good b) Late s (Come_home t c) k x = same-token shape number out s.command s.tokens t token k.0 x
comes-back shape number out l token Error Late s (Come_home t c) k x = same-token shape number out s.command s.tokens t token k.0 x
comes-back shape number out l token Error Taken s (Lose t c) k x = lost-back shape number out l s t c token k.0 x
comes-back shape number out l token Read_error Late s (Come_home t c) k x = same-token shape number out s.command s.tokens t token k.0 x
comes-back shape number out l token Read_error Taken s (Fail t c h) k x = same-token shape number out s.command s.tokens t token k.0 x
comes-back shape number out l token Read_error Taken s (Set_back t c id block) k x = same-token shape number out s.command s.tokens t token k.0 x
comes-back shape number out l token Read_error Taken s (Lose t c) k x = lost-back shape number out l s t c token k.0 x
comes-back shape number out l token completion receipt s change k x = absurd k

-- the completion of a command is delivered: it is out no more
pub delivered-out : (shape : Shape) (number : ℕ) (out : ℕ → Option Command) (l : Layout) (n : ℕ) (old new : Shard) (token : ℕ) (completion : Completion) (receipt : Receipt)
    → Step l n old (Deliver token completion receipt) new → AreOut shape number old.command old.tokens out
    → AreOut shape number new.command new.tokens (put out token None)
delivered-out shape number out l n old new token completion receipt st x =
    scanned shape number (put out token None) l n st.3 new st.5
    (gone-on shape number (put out token None) l n (after l old st.0) st.3 st.4 (comes-back shape number out l token completion receipt old st.0 st.1 x))

-- where none is out and none is left to be taken, the core has none
pub none-out : (shape : Shape) (number : ℕ) (out : ℕ → Option Command) (s : Shard) → AreOut shape number s.command s.tokens out → ((t : ℕ) → out t ≡ None)
    → AllAreTaken s → NoneIsOut s
none-out shape number out s x none all t = at (s.command t) refl
  where
    at : (o : Option world.Command) → s.command t ≡ o → s.command t ≡ None
    at None e = e
    at (Some c) e = absurd (x.all t c e (all t c e) (none t))

-- a command that isn't taken yet is not out
pub not-yet : (shape : Shape) (number : ℕ) (out : ℕ → Option Command) (s : Shard) → AreOut shape number s.command s.tokens out → (t : ℕ) (c : world.Command)
    → s.command t ≡ Some c → c.taken ≡ false → out t ≡ None
not-yet shape number out s x t c there untaken = at (out t) refl
  where
    at : (o : Option Command) → out t ≡ o → out t ≡ None
    at None e = e
    at (Some d) e = absurd (true≢false (sym ((x.each t d e).same c there).0 ∙ untaken))
