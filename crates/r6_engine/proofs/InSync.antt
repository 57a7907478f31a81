-- The slots that a core has in sync.
use Rattle.std.proofs.Common.{arith, ◌≡◌, ◌≤◌, ◌<◌, ◌+◌, ◌∙◌, ◌++◌, [], ◌∷◌, ℕ, zero, suc, List, Bool, Option, Some, None, length, refl, ap, inl, inr, sym, subst, option_map, nat_lt, slice_get, if◌then◌else◌}
use Rattle.std.specs.List.{Contains, cons_option, filter_map, range_with_len}
use Rattle.std.proofs.lemmas.List.{length-append}
use Rattle.std.proofs.lemmas.Option.{none-some, slice_get-get_or}
use Rattle.std.proofs.lemmas.Bool.{cases_eq, lt-ltb, cases_Bool}
use Rattle.std.proofs.lemmas.List.Elements.{filter_map-append}
use Rattle.r6_world.specs.ShardStates.{SlotState, Synced, Missing, Building, Doubled, Paired, InSyncFor, is_away}
use Rattle.r6_world.specs.Tables.{count_below}
use Rattle.r6_course.specs.Ends.{IsInUse}
use Rattle.r6_core.specs.Shards.{CoreView, synced, world_shard}
use Rattle.r6_engine.proofs.FeedLemmas.Putting.{range_more}
use Rattle.r6_engine.specs.Ledgers.{in_sync_at, in_sync_in}
use Rattle.r6_engine.proofs.EachShard.{some_same}

abbrev pub named : (slot : ℕ) → Option ℕ → List (ℕ × ℕ)
named slot None = []
named slot (Some generation) = (slot, generation) ∷ []

one : (slot : ℕ) (o : Option ℕ) → cons_option (option_map (λ generation. (slot, generation)) o) [] ≡ named slot o
one slot None = refl
one slot (Some generation) = refl

pub more-in-sync : (core : CoreView) (slot : ℕ) (o : Option ℕ) → slot < core.shape.slots
    → o ≡ (if nat_lt slot core.shape.slots then synced ((world_shard core).slot slot) else None)
    → filter_map (in_sync_at core) (range_with_len 0 (slot + 1)) ≡ filter_map (in_sync_at core) (range_with_len 0 slot) ++ named slot o
more-in-sync core slot o below is =
    let next : slot + 1 ≡ suc slot = omega arith in
    let at : 0 + slot ≡ slot = omega arith in
    let state : o ≡ synced ((world_shard core).slot slot) =
    is ∙ ap (λ (b : Bool). if b then synced ((world_shard core).slot slot) else None) (lt-ltb slot core.shape.slots below) in
    ap (λ n. filter_map (in_sync_at core) (range_with_len 0 n)) next
    ∙ ap (filter_map (in_sync_at core)) (range_more 0 slot)
    ∙ filter_map-append (in_sync_at core) (range_with_len 0 slot) ((0 + slot) ∷ [])
    ∙ ap (λ n. filter_map (in_sync_at core) (range_with_len 0 slot) ++ cons_option (in_sync_at core n) []) at
    ∙ ap (λ (s : Option ℕ). filter_map (in_sync_at core) (range_with_len 0 slot) ++ cons_option (option_map (λ generation. (slot, generation)) s) []) (sym state)
    ∙ ap (λ (ys : List (ℕ × ℕ)). filter_map (in_sync_at core) (range_with_len 0 slot) ++ ys) (one slot o)

-- ---- what it means for the shard

-- a slot that is there has this generation
of-pair : (core : CoreView) (low : ℕ) (o : Option ℕ) (slot generation : ℕ)
    → option_map {U = ℕ × ℕ} (λ (g : ℕ). (low, g)) o ≡ Some (slot, generation) → (low ≡ slot) × (o ≡ Some generation)
of-pair core low None slot generation is = absurd (none-some (slot, generation) is)
of-pair core low (Some g) slot generation is =
    let same = some_same (low, g) (slot, generation) is in (ap (λ (p : ℕ × ℕ). p.0) same, ap (λ (p : ℕ × ℕ). Some p.1) same)

-- in sync, with this generation, and below a bound
abbrev IsSyncedBelow : CoreView → (bound slot generation : ℕ) → Type 0
IsSyncedBelow core bound slot generation = (slot < bound) × (synced ((world_shard core).slot slot) ≡ Some generation)

first-in-range : (core : CoreView) (low bound slot generation : ℕ) → low < bound → (rest : List (ℕ × ℕ)) (o : Option (ℕ × ℕ)) → in_sync_at core low ≡ o
    → ((k : ℕ) → slice_get rest k ≡ Some (slot, generation) → IsSyncedBelow core bound slot generation)
    → (k : ℕ) → slice_get (cons_option o rest) k ≡ Some (slot, generation) → IsSyncedBelow core bound slot generation
first-in-range core low bound slot generation below rest None is later k at = later k at
first-in-range core low bound slot generation below rest (Some p) is later zero at =
    let here = of-pair core low (synced ((world_shard core).slot low)) slot generation (is ∙ at) in
    let same = here.0 in (
      omega (arith, same, below),
      subst (λ (n : ℕ). synced ((world_shard core).slot n) ≡ Some generation) same here.1,
    )
first-in-range core low bound slot generation below rest (Some p) is later (suc k) at = later k at

in-range : (core : CoreView) (low count k slot generation : ℕ)
    → slice_get (filter_map (in_sync_at core) (range_with_len low count)) k ≡ Some (slot, generation)
    → IsSyncedBelow core (low + count) slot generation
in-range core low zero k slot generation at = absurd (none-some (slot, generation) at)
in-range core low (suc count) k slot generation at =
    first-in-range core low (low + suc count) slot generation (omega arith) (filter_map (in_sync_at core) (range_with_len (low + 1) count))
    (in_sync_at core low) refl
    (λ k' at'. let more = in-range core (low + 1) count k' slot generation at' in let less = more.0 in (omega (arith, less), more.1)) k at

pub in-sync-of : (core : CoreView) (slot generation : ℕ) → Contains (in_sync_in core) (slot, generation)
    → (slot < core.shape.slots) × (synced ((world_shard core).slot slot) ≡ Some generation)
in-sync-of core slot generation there =
    let x = in-range core 0 core.shape.slots there.0 slot generation
    (slice_get-get_or (in_sync_in core) there.0 (slot, generation) there.1 ∙ ap Some there.2) in
    let less = x.0 in (omega (arith, less), x.1)

pub synced-for : (s : SlotState) (row generation : ℕ) → synced s ≡ Some generation → InSyncFor s row generation
synced-for (Synced current) row generation is = sym (some_same current generation is)
synced-for Missing row generation is = absurd (none-some generation is)
synced-for (Building current built) row generation is = absurd (none-some generation is)
synced-for (Doubled old new built) row generation is = inl (sym (some_same old generation is))
synced-for (Paired old new) row generation is = inl (sym (some_same old generation is))

pub synced-used : (s : SlotState) (generation : ℕ) → synced s ≡ Some generation → IsInUse s generation
synced-used (Synced current) generation is = sym (some_same current generation is)
synced-used Missing generation is = absurd (none-some generation is)
synced-used (Building current built) generation is = absurd (none-some generation is)
synced-used (Doubled old new built) generation is = inl (sym (some_same old generation is))
synced-used (Paired old new) generation is = inl (sym (some_same old generation is))

one-each : (slot : ℕ) (s : SlotState) → length (named slot (synced s)) + (if is_away s then 1 else 0) ≡ 1
one-each slot (Synced current) = refl
one-each slot Missing = refl
one-each slot (Building current built) = refl
one-each slot (Doubled old new built) = refl
one-each slot (Paired old new) = refl

-- each slot is in sync or away
pub sync-and-away : (core : CoreView) (slots : ℕ) → slots ≤ core.shape.slots
    → length (filter_map (in_sync_at core) (range_with_len 0 slots)) + count_below (λ d. is_away ((world_shard core).slot d)) slots ≡ slots
sync-and-away core zero within = refl
sync-and-away core (suc slots) within =
    let state = (world_shard core).slot slots in
    let below : slots < core.shape.slots = omega (arith, within) in
    let next : suc slots ≡ slots + 1 = omega arith in
    let more = ap (λ (n : ℕ). length (filter_map (in_sync_at core) (range_with_len 0 n))) next
    ∙ ap length (more-in-sync core slots (synced state) below
    (sym (ap (λ (b : Bool). if b then synced state else None) (lt-ltb slots core.shape.slots below))))
    ∙ length-append (filter_map (in_sync_at core) (range_with_len 0 slots)) (named slots (synced state)) in
    let before = sync-and-away core slots (omega (arith, within)) in
    let one = one-each slots state in
    omega (arith, more, before, one)

more-there : {A : Type 0} (o : Option A) (xs : List A) (x : A) → Contains xs x → Contains (cons_option o xs) x
more-there None xs x there = there
more-there (Some y) xs x (k, below, at) = (suc k, omega (arith, below), at)

synced-there : (core : CoreView) (low count slot generation : ℕ) → low ≤ slot → slot < low + count
    → synced ((world_shard core).slot slot) ≡ Some generation
    → Contains (filter_map (in_sync_at core) (range_with_len low count)) (slot, generation)
synced-there core low zero slot generation from below is = absurd (omega (arith, from, below))
synced-there core low (suc count) slot generation from below is = elim (cases_eq low slot) [
  | inl same ↦
      let rest = filter_map (in_sync_at core) (range_with_len (low + 1) count) in
      let here : in_sync_at core low ≡ Some (slot, generation) =
      ap (in_sync_at core) same ∙ ap (option_map {U = ℕ × ℕ} (λ (g : ℕ). (slot, g))) is in
      subst (λ (o : Option (ℕ × ℕ)). Contains (cons_option o rest) (slot, generation)) (sym here) (0, omega arith, refl)
  | inr ne ↦
      more-there (in_sync_at core low) (filter_map (in_sync_at core) (range_with_len (low + 1) count)) (slot, generation)
      (synced-there core (low + 1) count slot generation (omega (arith, from, ne)) (omega (arith, below)) is)
]

pub of-synced : (core : CoreView) (slot generation : ℕ) → slot < core.shape.slots → synced ((world_shard core).slot slot) ≡ Some generation
    → Contains (in_sync_in core) (slot, generation)
of-synced core slot generation below is = synced-there core 0 core.shape.slots slot generation (omega arith) (omega (arith, below)) is

-- a core that answers with a generation has the slot in sync so
pub kept-of : (core : CoreView) (slot generation : ℕ) → Some generation ≡ (if nat_lt slot core.shape.slots then synced ((world_shard core).slot slot) else None)
    → synced ((world_shard core).slot slot) ≡ Some generation
kept-of core slot g is =
    let state = synced ((world_shard core).slot slot) in
    elim (cases_Bool (nat_lt slot core.shape.slots)) [
      | inl within ↦ sym (is ∙ ap (λ (b : Bool). if b then state else None) within)
      | inr out ↦ absurd (none-some g (sym (is ∙ ap (λ (b : Bool). if b then state else None) out)))
    ]
