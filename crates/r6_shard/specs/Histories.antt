-- What a history of requests and replies has, each kind by itself.
use Rattle.std.specs.Prelude.{ℕ, ◌+◌, List, [], ◌∷◌}
use Rattle.r6_world.specs.PlainArray.{Op, Reply}
use Rattle.r6_course.specs.Courses.{Mark, Asked, Replied}

-- the requests that were handed in
abbrev pub asked_in : List Mark → List (ℕ × Op)
asked_in [] = []
asked_in (Asked id op ∷ history) = (id, op) ∷ asked_in history
asked_in (Replied id reply ∷ history) = asked_in history

-- the replies that were taken
abbrev pub replied_in : List Mark → List (ℕ × Reply)
replied_in [] = []
replied_in (Asked id op ∷ history) = replied_in history
replied_in (Replied id reply ∷ history) = (id, reply) ∷ replied_in history

-- how many replies were taken before each request was handed in
abbrev pub answered_before : (replies : ℕ) → List Mark → List ℕ
answered_before replies [] = []
answered_before replies (Asked id op ∷ history) = replies ∷ answered_before replies history
answered_before replies (Replied id reply ∷ history) = answered_before (replies + 1) history

-- requests have the numbers from the first on
abbrev pub numbered : (first : ℕ) → List Op → List (ℕ × Op)
numbered first [] = []
numbered first (op ∷ ops) = (first, op) ∷ numbered (first + 1) ops
