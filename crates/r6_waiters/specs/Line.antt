-- A line of entries that wait, as its callers see it (this project's own).
use Rattle.std.specs.Prelude.{ℕ, ◌<◌, ◌==◌, ◌||◌, Bool, false, List, [], ◌∷◌, Option, Some, None, if◌then◌else◌}

-- the entries, the oldest first, each with the cause that it waits for
abbrev pub Entries : Type 0 → Type 0
Entries X = List (ℕ × X)

-- how many entries it has room for, how many causes it knows, and the entries that wait
abbrev pub Line : Type 0 → Type 0
Line X = ℕ × (ℕ × Entries X)

abbrev pub capacity_of : {X : Type 0} → Line X → ℕ
capacity_of line = line.0

abbrev pub causes_of : {X : Type 0} → Line X → ℕ
causes_of line = line.1.0

abbrev pub entries_of : {X : Type 0} → Line X → Entries X
entries_of line = line.1.1

-- the line with other entries
abbrev pub with_entries : {X : Type 0} → Line X → Entries X → Line X
with_entries line entries = (line.0, (line.1.0, entries))

-- the value of the oldest entry that waits for the cause
abbrev pub oldest_of : {X : Type 0} → ℕ → Entries X → Option X
oldest_of cause [] = None
oldest_of cause (entry ∷ entries) = if entry.0 == cause then Some entry.1 else oldest_of cause entries

-- the cause that the oldest entry waits for of those that wait for one of the two
abbrev pub older_of : {X : Type 0} → ℕ → ℕ → Entries X → Option ℕ
older_of first second [] = None
older_of first second (entry ∷ entries) =
    if (entry.0 == first) || (entry.0 == second) then Some entry.0 else older_of first second entries

-- the entries but the oldest one that waits for the cause
abbrev pub without_oldest : {X : Type 0} → ℕ → Entries X → Entries X
without_oldest cause [] = []
without_oldest cause (entry ∷ entries) = if entry.0 == cause then entries else entry ∷ without_oldest cause entries

-- a value that may have a key has this one
abbrev pub is_key : ℕ → Option ℕ → Bool
is_key key None = false
is_key key (Some other) = other == key

-- the value of the oldest entry with the key, whatever it waits for
abbrev pub oldest_keyed : {X : Type 0} → (key_of : X → Option ℕ) → (key : ℕ) → Entries X → Option X
oldest_keyed key_of key [] = None
oldest_keyed key_of key (entry ∷ entries) =
    if is_key key (key_of entry.1) then Some entry.1 else oldest_keyed key_of key entries

-- the entries but the oldest one with the key
abbrev pub without_oldest_keyed : {X : Type 0} → (key_of : X → Option ℕ) → (key : ℕ) → Entries X → Entries X
without_oldest_keyed key_of key [] = []
without_oldest_keyed key_of key (entry ∷ entries) =
    if is_key key (key_of entry.1) then entries else entry ∷ without_oldest_keyed key_of key entries

-- the oldest entry that waited for one cause waits for another, in its place
abbrev pub oldest_moved : {X : Type 0} → ℕ → ℕ → Entries X → Entries X
oldest_moved from to [] = []
oldest_moved from to (entry ∷ entries) =
    if entry.0 == from then (to, entry.1) ∷ entries else entry ∷ oldest_moved from to entries

-- each entry that waited for one cause waits for another, in its place
abbrev pub all_moved : {X : Type 0} → ℕ → ℕ → Entries X → Entries X
all_moved from to [] = []
all_moved from to (entry ∷ entries) = ((if entry.0 == from then to else entry.0), entry.1) ∷ all_moved from to entries

-- every entry waits for the cause, in its place
abbrev pub gathered : {X : Type 0} → ℕ → Entries X → Entries X
gathered cause [] = []
gathered cause (entry ∷ entries) = (cause, entry.1) ∷ gathered cause entries

-- each entry waits for a cause below this one
abbrev pub AreBelow : {X : Type 0} → ℕ → Entries X → Type 0
AreBelow causes [] = Unit {0}
AreBelow causes (entry ∷ entries) = (entry.0 < causes) × AreBelow causes entries
