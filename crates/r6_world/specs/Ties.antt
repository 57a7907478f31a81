-- What ties a call to the values that its caller hands in and gets: all that one who believes the laws and doesn't read
-- `Step` has to know of it (this project's own).
use Rattle.std.specs.Prelude.{◌≡◌, ◌≢◌, ℕ, ◌+◌, ◌<◌, List, [], ◌∷◌, length, true, false, Some, None}
use Rattle.r6_world.specs.PlainArray.{Op, Reply}
use Rattle.r6_world.specs.Layouts.{Layout}
use Rattle.r6_world.specs.ShardStates.{Command, Call, Shard, Stage, Released}
use Rattle.r6_world.specs.Steps.{Event, Completion, Receipt, Submit, Submit_all, Deliver, Take_command, Take_call, Take_reply, Step}

-- the request of this number asks for this, and its reply wasn't taken
abbrev pub IsOpenFor : Shard → (id : ℕ) → Op → Type 0
IsOpenFor s id op = (stage : Stage) × (s.request id ≡ Some (record { op = op; stage = stage }))

-- and these from this number on
abbrev pub AreOpenFor : Shard → (first : ℕ) → List Op → Type 0
AreOpenFor s first [] = record {}
AreOpenFor s first (op ∷ ops) = IsOpenFor s first op × AreOpenFor s (first + 1) ops

-- the command with this token was handed out
abbrev pub WasTaken : Shard → (token : ℕ) → Type 0
WasTaken s token = (c : Command) × (s.command token ≡ Some c) × (c.taken ≡ true)

pub record AreTied (l : Layout) (n : ℕ) (old new : Shard) : Type 0 where
  -- a request has the number that is answered, which is the next one, and asks for what was handed in
  pub submitted : (op : Op) (id : ℕ) → Step l n old (Submit op id) new
      → (id ≡ old.accepted) × (new.accepted ≡ old.accepted + 1) × IsOpenFor new id op
  -- and requests that are handed in together have the next numbers in their order
  pub together : (ops : List Op) (first : ℕ) → Step l n old (Submit_all ops first) new
      → (first ≡ old.accepted) × (new.accepted ≡ old.accepted + length ops) × AreOpenFor new first ops
  -- each asks for that until its reply is taken
  pub kept : (event : Event) (id : ℕ) (op : Op) → Step l n old event new → id < old.accepted → IsOpenFor old id op
      → ((reply : Reply) → event ≢ Take_reply id reply) → IsOpenFor new id op
  -- a command that is handed out is the shard's own with that token, and is handed out no second time
  pub taken : (token : ℕ) (c : Command) → Step l n old (Take_command token c) new
      → (old.command token ≡ Some c) × (c.taken ≡ false) × WasTaken new token
  -- a completion that is accepted is of a command with that token, which was handed out
  pub delivered : (token : ℕ) (completion : Completion) (receipt : Receipt)
      → Step l n old (Deliver token completion receipt) new
      → WasTaken old token
  -- a call that is handed out is the shard's next, and is out from then on
  pub called : (call : Call) → Step l n old (Take_call call) new
      → (rest : List Call) × (old.calls ≡ call ∷ rest) × (new.calls ≡ rest) × (new.untold ≡ Some call)
  -- a reply that is handed over was released for the request with that number, which is open no more
  pub replied : (id : ℕ) (reply : Reply) → Step l n old (Take_reply id reply) new
      → (op : Op) × (old.request id ≡ Some (record { op = op; stage = Released reply })) × (new.request id ≡ None)

abbrev pub TiesLaw : Type 0
TiesLaw = (l : Layout) (n : ℕ) (old new : Shard) → AreTied l n old new
