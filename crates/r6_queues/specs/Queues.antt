-- A queue between one writer and one reader (this project's own).
use Rattle.std.specs.Prelude.{◌≡◌, ℕ, ◌+◌, ◌≤◌, length, Bool, true, false, List, [], ◌∷◌, ◌++◌, Option, Some, None}
use mathlib.Core.Option.{some}
use lib.ListN.{get_elem?}
use Rattle.r6_queues.specs.declared.ends.Ends.{Ends}

-- what an end knows
abbrev pub ends : {T K : Type 0} → (pushes pops : Bool) → (pushed popped acknowledged : List T) → (about : K) → Ends T K
ends pushes pops pushed popped acknowledged about =
    record {
      pushes = pushes;
      pops = pops;
      pushed = pushed;
      popped = popped;
      acknowledged = acknowledged;
      about = about;
    }

-- one that knows nothing, whatever the queue is about
abbrev pub stranger : {T K : Type 0} → (about : K) → Ends T K
stranger about = ends false false [] [] [] about

-- what a queue is about, once that is said
abbrev pub settled : {K : Type 0} → (before : K) → Option K → K
settled before None = before
settled before (Some about) = about

abbrev pub having_pushed : {T K : Type 0} → Ends T K → T → Ends T K
having_pushed v x = record v { pushed = v.pushed ++ x ∷ [] }

-- whoever pops knows what was popped
abbrev pub having_popped : {T K : Type 0} → Ends T K → T → Ends T K
having_popped v x = record v { popped = v.popped ++ x ∷ []; acknowledged = v.popped ++ x ∷ [] }

-- it tells what was popped, and may do nothing
abbrev pub acknowledgement_of : {T K : Type 0} → Ends T K → Ends T K
acknowledgement_of v = ends false false [] [] v.acknowledged v.about

-- what is acknowledged is taken over from another
abbrev pub having_heard : {T K : Type 0} → Ends T K → Ends T K → Ends T K
having_heard v u = record v { acknowledged = u.acknowledged }

abbrev pub StartsWith : {T : Type 0} → (all front : List T) → Type 0
StartsWith {T = T} all front = (rest : List T) × (all ≡ front ++ rest)

-- the writer pushed at least so many more items than it was told of
abbrev pub HasPushed : {T K : Type 0} → (more : ℕ) → Ends T K → Type 0
HasPushed more v = length v.acknowledged + more ≤ length v.pushed

-- at most one pushes, the writer, and it knows all that was pushed; at most one pops, the reader, and it knows all that
-- was popped; and what any was told of is a beginning of what was popped
abbrev pub Fits : {T K : Type 0} → (writer reader : ℕ) → (pushed popped : List T) → (about : K) → (port : ℕ) → Ends T K
    → Type 0
Fits writer reader pushed popped about port v =
    (v.pushes ≡ true → (port ≡ writer) × (v.pushed ≡ pushed) × (v.about ≡ about))
    × (v.pops ≡ true → (port ≡ reader) × (v.popped ≡ popped) × (v.about ≡ about))
    × StartsWith popped v.acknowledged

-- What was pushed is what was popped and then what the queue holds, and it is admitted
abbrev pub Relayed : {T K : Type 0} → (admits : K → List T → Type 0) → List T → List (Ends T K) → Type 0
Relayed {T = T} {K = K} admits items views =
    (writer : ℕ) × (reader : ℕ) × (pushed : List T) × (popped : List T) × (about : K)
    × (pushed ≡ popped ++ items) × admits about pushed
    × ((port : ℕ) (v : Ends T K) → get_elem? views port ≡ some v → Fits writer reader pushed popped about port v)

-- what a rule has to be: it is true of no items, and where it is true of some it is true of the first of them
pub record IsRule {T K : Type 0} (admits : K → List T → Type 0) : Type 0 where
  pub empty : (about : K) → admits about []
  pub prefix : (about : K) (front rest : List T) → admits about (front ++ rest) → admits about front
