-- Commands are performed in place.
use Rattle.std.proofs.Common.{◌≡◌, ◌≤◌, ℕ, List, length, true, inl, inr, refl, sym, ap, ◌∙◌, arith, Option, Some, None, Result, Ok, Err, IfOk, IfErr, vec_capacity}
use Rattle.std.specs.Prelude.{cond, option_map, unwrap_or, MatchResult, IsOk}
use Rattle.std.proofs.lemmas.List.{length-map}
use Rattle.std.proofs.lemmas.Bool.{cases_eq, eq-eqb, ne_eqb, false≢true}
use Rattle.r6_dev.specs.History.{Telling}
use Rattle.r6_dev.specs.Promises.{Promise, Covers, no_promise}
use Rattle.r6_world.specs.Tables.{put}
use Rattle.r6_world.specs.declared.values.Command.{Command}
use Rattle.r6_world.specs.declared.values.DeviceFault.{DeviceFault}
use Rattle.r6_world.proofs.Tables.{put-same, put-other}
use Rattle.r6_exchange.specs.declared.task.Part.{Part}
use Rattle.r6_shard.specs.declared.in_place.InPlace.{InPlace}
use Rattle.r6_shard.specs.Waiting.{out_of, performer_of, is_free_with}
use Rattle.r6_shard.specs.Parts.{label_of, labels_of, part_in, promise_in, PutsIn, TakesIn}
use Rattle.r6_shard.specs.Performing.{Did, Receives, having_sent}
use Rattle.r6_shard.proofs.Handed.{told-of}
use Rattle.r6_shard.proofs.Promises.{promise-of}

own-token : (c : Command) (token : ℕ) → token ≡ c.token → out_of (Some c) token ≡ Some c
own-token c token same = ap (λ b. cond b (Some c) None) (eq-eqb token c.token same)

other-token : (c : Command) (token : ℕ) → (token ≡ c.token → ⊥) → out_of (Some c) token ≡ None
other-token c token ne = ap (λ b. cond b (Some c) None) (ne_eqb token c.token ne)

waits : (c : Command) → out_of (Some c) c.token ≡ Some c
waits c = own-token c c.token refl

-- a command is sent
sent-out : (c : Command) → out_of (Some c) ≡ put (out_of None) c.token (Some c)
sent-out c = λ i token. at token i
  where
    at : (token : ℕ) → out_of (Some c) token ≡ put (out_of None) c.token (Some c) token
    at token = elim (cases_eq token c.token) [
      | inl same ↦ own-token c token same ∙ sym (put-same (out_of None) c.token (Some c) token same)
      | inr ne ↦ other-token c token ne ∙ sym (put-other (out_of None) c.token (Some c) token ne)
    ]

-- and performed
received-out : (c : Command) → out_of None ≡ put (out_of (Some c)) c.token None
received-out c = λ i token. at token i
  where
    at : (token : ℕ) → out_of None token ≡ put (out_of (Some c)) c.token None token
    at token = elim (cases_eq token c.token) [
      | inl same ↦ sym (put-same (out_of (Some c)) c.token None token same)
      | inr ne ↦ sym (put-other (out_of (Some c)) c.token None token ne ∙ other-token c token ne)
    ]

none-waits : (waiting : Option Command) → is_free_with waiting ≡ true → waiting ≡ None
none-waits None free = refl
none-waits (Some c) free = absurd (false≢true free)

pub sends : {D : Type 0} (told : D → Telling) (promised : D → Promise) (old : InPlace D) (c : Command) → is_free_with old.waiting ≡ true
    → performer_of told promised (record { parts = old.parts; waiting = Some c }) ≡ having_sent (performer_of told promised old) c
sends told promised old c free =
    ap (λ (out : ℕ → Option Command). record (performer_of told promised old) { out = out })
    (sent-out c ∙ ap (λ w. put (out_of w) c.token (Some c)) (sym (none-waits old.waiting free)))

pub receives : {D : Type 0} (told : D → Telling) (promised : D → Promise) (old new : InPlace D) (c : Command) (result : Result (List ℕ) DeviceFault)
    → old.waiting ≡ Some c → new.waiting ≡ None → Did (part_in told old.parts.items) (part_in told new.parts.items) c result
    → (Covers (promise_in promised old.parts.items c.slot c.generation) c.row (length c.buffer) → IsOk result)
    → promise_in promised new.parts.items ≡ promise_in promised old.parts.items → labels_of new.parts.items ≡ labels_of old.parts.items
    → vec_capacity new.parts ≡ vec_capacity old.parts
    → Receives (performer_of told promised old) (performer_of told promised new) (record { token = c.token; slot = c.slot; result = result })
receives told promised old new c result was none did sound promises labels room =
    record {
      command = c;
      was_out = ap (λ w. out_of w c.token) was ∙ waits c;
      slot = refl;
      did = did;
      sound = sound;
      out = ap out_of none ∙ received-out c ∙ ap (λ w. put (out_of w) c.token None) (sym was);
      promised = promises;
      steady = refl;
      labels = labels;
      part_room = room;
    }

-- a part is put in
pub puts-takes : {D : Type 0} (told : D → Telling) (promised : D → Promise) (part : Part D) (earlier : Option (Part D)) (old new : InPlace D)
    → PutsIn part earlier old.parts.items new.parts.items → vec_capacity new.parts ≡ vec_capacity old.parts → new.waiting ≡ old.waiting
    → TakesIn told promised part earlier (performer_of told promised old) (performer_of told promised new)
puts-takes {D = D} told promised part earlier old new x room waiting =
    let tell = option_map (λ (p : Part D). told p.device) in
    let promise = λ (o : Option (Part D)). unwrap_or (option_map (λ (p : Part D). promised p.device) o) no_promise in
    record {
      labels = x.labels;
      tells = told-of told new.parts.items part.slot part.generation ∙ ap tell x.there;
      promises = promise-of promised new.parts.items part.slot part.generation part x.there;
      steady = refl;
      others = λ other g ne.
          told-of told new.parts.items other g ∙ ap tell (x.kept other g ne) ∙ sym (told-of told old.parts.items other g);
      still = λ other g ne. ap promise (x.kept other g ne);
      part_room = room;
      out = ap out_of waiting;
    }

pub takes-or-not : {D : Type 0} (told : D → Telling) (promised : D → Promise) (part : Part D) (old new : InPlace D) (r : Result (Option (Part D)) (Part D))
    → IfOk r (λ earlier. PutsIn part earlier old.parts.items new.parts.items) → vec_capacity new.parts ≡ vec_capacity old.parts → new.waiting ≡ old.waiting
    → IfErr r (λ back. (back ≡ part) × (new ≡ old) × (vec_capacity old.parts ≤ length old.parts.items))
    → MatchResult r (λ earlier. TakesIn told promised part earlier (performer_of told promised old) (performer_of told promised new))
    (λ back. (back ≡ part) × (new ≡ old) × (vec_capacity old.parts ≤ length (labels_of old.parts.items)))
takes-or-not told promised part old new (Ok earlier) puts room waiting full = puts-takes told promised part earlier old new puts room waiting
takes-or-not told promised part old new (Err back) puts room waiting full = (
  full.0,
  full.1,
  (let most = full.2 in let n = length-map old.parts.items label_of in omega arith),
)
