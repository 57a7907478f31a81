-- The requests that are read directly, when commands are abandoned or go, and when the use of a direct buffer changes.
use Rattle.std.proofs.Common.{◌≡◌, ℕ, zero, suc, ◌<◌, Bool, true, false, cond, List, [], ◌∷◌, ◌++◌, length, map, set, refl, sym, ap, subst, ◌∙◌, Option, Some, None, arith}
use Rattle.std.specs.Prelude.{not, nat_eq, option_map}
use Rattle.std.specs.FinMap as map
use Rattle.std.proofs.lemmas.Bool.{eqb-true}
use Rattle.r6_world.specs.Changes.{is_going_on, read_stage}
use Rattle.r6_world.specs.ShardStates as shards
use Rattle.r6_world.specs.ShardStates.{Stage, Waiting, Erred, Held, Reading, Finished, Released, Request, Command}
use Rattle.r6_frames.specs.declared.directs.Direct.{Direct}
use Rattle.r6_frames.specs.declared.directs.DirectRead.{DirectRead}
use Rattle.r6_frames.specs.declared.slots.Slot.{Slot}
use Rattle.r6_frames.specs.FramesState.{FramesState}
use Rattle.r6_frames.specs.Slots.{slot_in, is_gone}
use Rattle.r6_frames.proofs.DirectReads.{StaysGone}
use Rattle.r6_frames.specs.Views.{Rest, command_of, world_commands}
use Rattle.r6_frames.specs.Calls.{ComesHome}
use Rattle.r6_frames.specs.Directs.{AreDirects, direct_at, is_stopped, stage_of, read_entry, read_by, reads_from}
use Rattle.r6_frames.specs.Reads.{IsWithEntry}

-- ---- what of the commands decides

pub same_stage : (f g : ℕ → Option Command) → ((t : ℕ) → is_going_on (f t) ≡ is_going_on (g t)) → (stage : Stage) → read_stage f stage ≡ read_stage g stage
same_stage f g same Waiting = refl
same_stage f g same Erred = refl
same_stage f g same (Held frame) = refl
same_stage f g same (Reading token) = ap (λ b. cond b (Reading token) Waiting) (same token)
same_stage f g same (Finished reply) = refl
same_stage f g same (Released reply) = refl

-- ---- commands are abandoned

waits_on : (f : ℕ → Option Command) (token : ℕ) (stopped : Bool) → is_going_on (f token) ≡ not stopped → stage_of stopped token ≡ read_stage f (Reading token)
waits_on f token true going = sym (ap (λ b. cond b (Reading token) Waiting) going)
waits_on f token false going = sym (ap (λ b. cond b (Reading token) Waiting) going)

module _ (fs : FramesState) (slots : List Slot) (next_taken : ℕ) (are : AreDirects fs.geometry fs.shard fs.slots fs.commands fs.directs)
    (gone : StaysGone fs.slots fs.commands.next slots) where
  abbrev now : ℕ → Option Command
  now token = option_map (command_of slots next_taken token) (map.get fs.commands.entries token)

  stage_on : (number : ℕ) (r : DirectRead) → (direct_at fs.directs number).read ≡ Some r
      → stage_of (is_stopped slots r) r.token ≡ read_stage now (stage_of (is_stopped fs.slots r) r.token)
  stage_on number r has =
      elim (is_stopped fs.slots r) as (λ b. is_stopped fs.slots r ≡ b → stage_of (is_stopped slots r) r.token ≡ read_stage now (stage_of b r.token)) [
        | true ↦ λ e.
            ap (λ b. stage_of b r.token) (gone r.slot r.token r.generation (are.reads number r has).given e)
        | false ↦ λ e.
            let going = are.going number r has e in
            waits_on now r.token (is_stopped slots r)
            (ap (λ o. is_going_on (option_map (command_of slots next_taken r.token) o)) going.1.there
            ∙ (λ i. not (is_gone (slot_in slots (going.1.slot i)) r.token (going.1.generation i))))
      ] refl

  entries_on : (directs : List Direct) → ((number : ℕ) (r : DirectRead) → (direct_at directs number).read ≡ Some r → stage_of (is_stopped slots r) r.token ≡ read_stage now (stage_of (is_stopped fs.slots r) r.token))
      → reads_from slots directs ≡ map (λ (e : ℕ × Request). (e.0, record { op = e.1.op; stage = read_stage now e.1.stage })) (reads_from fs.slots directs)
  entries_on [] same = refl
  entries_on (d ∷ directs) same = by_read d.read refl (entries_on directs (λ number r has. same (suc number) r has))
    where
      by_read : (o : Option DirectRead) → d.read ≡ o
          → reads_from slots directs ≡ map (λ (e : ℕ × Request). (e.0, record { op = e.1.op; stage = read_stage now e.1.stage })) (reads_from fs.slots directs)
          → read_by slots o ++ reads_from slots directs ≡ map (λ (e : ℕ × Request). (e.0, record { op = e.1.op; stage = read_stage now e.1.stage })) (read_by fs.slots o ++ reads_from fs.slots directs)
      by_read None has rest = rest
      by_read (Some r) has rest = λ i. read_entry r (same 0 r has i) ∷ rest i

  pub reads_again : reads_from slots fs.directs ≡ map (λ (e : ℕ × Request). (e.0, record { op = e.1.op; stage = read_stage now e.1.stage })) (reads_from fs.slots fs.directs)
  reads_again = entries_on fs.directs stage_on

-- no command is abandoned
pub reads_same : (slots later : List Slot) → ((slot token generation : ℕ) → is_gone (slot_in later slot) token generation ≡ is_gone (slot_in slots slot) token generation) → (directs : List Direct) → reads_from later directs ≡ reads_from slots directs
reads_same slots later same [] = refl
reads_same slots later same (d ∷ directs) = by_read d.read (reads_same slots later same directs)
  where
    by_read : (o : Option DirectRead) → reads_from later directs ≡ reads_from slots directs → read_by later o ++ reads_from later directs ≡ read_by slots o ++ reads_from slots directs
    by_read None rest = rest
    by_read (Some r) rest = λ i. read_entry r (stage_of (same r.slot r.token r.generation i) r.token) ∷ rest i

-- ---- an abandoned command goes

going_home : (f : ℕ → Option Command) (token : ℕ) (c : Command) → f token ≡ Some c → c.abandoned ≡ true → (g : ℕ → Option Command) → g ≡ (λ t. cond (nat_eq t token) None (f t))
    → (t : ℕ) → is_going_on (g t) ≡ is_going_on (f t)
going_home f token c is abandoned g gone t =
    ap (λ (h : ℕ → Option Command). is_going_on (h t)) gone
    ∙ elim (nat_eq t token) as (λ b. nat_eq t token ≡ b → is_going_on (cond b None (f t)) ≡ is_going_on (f t)) [
      | true ↦ λ e. sym (ap (λ k. is_going_on (f k)) (eqb-true t token e) ∙ ap is_going_on is ∙ ap not abandoned)
      | false ↦ λ e. refl
    ] refl

-- a shard that has nothing beside its frames
no_rest : Rest
no_rest =
    record {
      accepted = 0;
      request = λ id. None;
      calls = [];
      untold = None;
      check_row = 0;
      repair_row = 0;
      counts = record { consistent = 0; wrong_p = 0; wrong_q = 0; wrong_data = 0; many = 0; skipped = 0; repaired = 0; rebuilt = 0 };
    }

pub home_goes : (mid new : FramesState) (token : ℕ) → ComesHome mid token new → (t : ℕ) → is_going_on (world_commands new t) ≡ is_going_on (world_commands mid t)
home_goes mid new token comes =
    let home = comes.2 no_rest in
    going_home (world_commands mid) token home.0 home.2.0 home.2.1 (world_commands new) (ap (λ (s : shards.Shard). s.command) home.3)

-- ---- the read of one direct buffer comes or goes

reads_behind : (slots : List Slot) (o : Option DirectRead) (few : List (ℕ × Request)) (entry : ℕ × Request) (more : List (ℕ × Request)) → IsWithEntry few entry more
    → IsWithEntry (read_by slots o ++ few) entry (read_by slots o ++ more)
reads_behind slots None few entry more is = is
reads_behind slots (Some r) few entry more is =
    let first = read_entry r (stage_of (is_stopped slots r) r.token) in
    record {
      before = first ∷ is.before;
      behind = is.behind;
      without = ap (λ es. first ∷ es) is.without;
      with = ap (λ es. first ∷ es) is.with;
    }

first_read : (slots : List Slot) (r : DirectRead) (few : List (ℕ × Request)) → IsWithEntry few (read_entry r (stage_of (is_stopped slots r) r.token)) (read_by slots (Some r) ++ few)
first_read slots r few = record { before = []; behind = few; without = refl; with = refl }

pub read_comes : (slots : List Slot) (directs : List Direct) (number : ℕ) (d : Direct) (r : DirectRead) → number < length directs → (direct_at directs number).read ≡ None → d.read ≡ Some r
    → IsWithEntry (reads_from slots directs) (read_entry r (stage_of (is_stopped slots r) r.token)) (reads_from slots (set directs number d))
read_comes slots [] number d r below none some = absurd (omega arith)
read_comes slots (x ∷ directs) zero d r below none some =
    let entry = read_entry r (stage_of (is_stopped slots r) r.token) in
    subst (λ (o : Option DirectRead). IsWithEntry (read_by slots o ++ reads_from slots directs) entry (read_by slots d.read ++ reads_from slots directs)) (sym none)
    (subst (λ (o : Option DirectRead). IsWithEntry (reads_from slots directs) entry (read_by slots o ++ reads_from slots directs)) (sym some) (first_read slots r (reads_from slots directs)))
read_comes slots (x ∷ directs) (suc number) d r below none some =
    reads_behind slots x.read (reads_from slots directs) (read_entry r (stage_of (is_stopped slots r) r.token)) (reads_from slots (set directs number d))
    (read_comes slots directs number d r (omega arith) none some)

pub read_goes : (slots : List Slot) (directs : List Direct) (number : ℕ) (d : Direct) (r : DirectRead) → number < length directs → (direct_at directs number).read ≡ Some r → d.read ≡ None
    → IsWithEntry (reads_from slots (set directs number d)) (read_entry r (stage_of (is_stopped slots r) r.token)) (reads_from slots directs)
read_goes slots [] number d r below some none = absurd (omega arith)
read_goes slots (x ∷ directs) zero d r below some none =
    let entry = read_entry r (stage_of (is_stopped slots r) r.token) in
    subst (λ (o : Option DirectRead). IsWithEntry (read_by slots o ++ reads_from slots directs) entry (read_by slots x.read ++ reads_from slots directs)) (sym none)
    (subst (λ (o : Option DirectRead). IsWithEntry (reads_from slots directs) entry (read_by slots o ++ reads_from slots directs)) (sym some) (first_read slots r (reads_from slots directs)))
read_goes slots (x ∷ directs) (suc number) d r below some none =
    reads_behind slots x.read (reads_from slots (set directs number d)) (read_entry r (stage_of (is_stopped slots r) r.token)) (reads_from slots directs)
    (read_goes slots directs number d r (omega arith) some none)

-- and only its buffer changes
pub reads_stay : (slots : List Slot) (directs : List Direct) (number : ℕ) (d : Direct) → d.read ≡ (direct_at directs number).read → reads_from slots (set directs number d) ≡ reads_from slots directs
reads_stay slots [] number d same = refl
reads_stay slots (x ∷ directs) zero d same = ap (λ (o : Option DirectRead). read_by slots o ++ reads_from slots directs) same
reads_stay slots (x ∷ directs) (suc number) d same = ap (λ es. read_by slots x.read ++ es) (reads_stay slots directs number d same)
