-- What the words and lines of a script are, and how they are told apart.
use Rattle.std.proofs.Common.{◌≡◌, ◌≢◌, ◌≤◌, ◌<◌, ◌+◌, ◌-◌, ◌++◌, ◌==◌, ℕ, suc, eqb, Bool, true, false, not, List, [], ◌∷◌, Option, Some, None, Result, Ok, Err, IfOk, IfErr, length, get_or, map, take, drop, nat_lt, codes, decimal, refl, ap, sym, ◌∙◌, subst, arith, append_assoc, lit≤, lit<}
use Rattle.std.proofs.lemmas.Bool.Decides.{Decides-eqb, nat_tests}
use Rattle.std.proofs.lemmas.Slice.Eq.{slice_eq-Decides}
use Rattle.std.specs.Cmp.Lexicographic.{pointwise}
use Rattle.std.proofs.lemmas.Fmt.{decimal-digits_value, decimal_injective, decimal_nonempty, digits_decimal, first_decimal, parse-decimal}
use Rattle.std.proofs.lemmas.List.{append-nil, take_all}
use Rattle.std.proofs.lemmas.Iterator.{YieldsList}
use Rattle.std.proofs.lemmas.Iterator.Consumers.{YieldsList-at, YieldsList-end, YieldsList-turn}
use Rattle.std.proofs.lemmas.Iterator.Splits.{YieldsList-from_str_split}
use Rattle.std.specs.Iterator.{Yields}
use Rattle.std.specs.Str.Iter.{split_has_more, split_pattern, split_steps, split_text}
use Rattle.std.specs.declared.str.Split.{Split}
use Rattle.std.proofs.lemmas.List.Elements.{filter_more}
use Rattle.std.proofs.lemmas.Str.Parse.{IsNumeralModel, digit_at, numerals_by_value, tells_digits, parse_plain, not_in_digits}
use Rattle.std.proofs.lemmas.Str.Pattern.{IsSplitOnceResult, split_after}
use Rattle.std.specs.Char.{digit_value}
use Rattle.std.specs.Fmt.{digits}
use Rattle.std.specs.Int.{IsInRange}
use Rattle.std.specs.List.{All}
use Rattle.std.specs.Result.{result_ok}
use Rattle.std.specs.Str.Parse.{AllDigits, digits_value, ParsesUnsigned}
use Rattle.std.specs.Str.Pattern.{FindsChar, FindsTextPrefix}
use denote.Ref.{Bor}
use Rattle.r6_layout.specs.Limits as limits
use Rattle.r6_layout.specs.Shape.{Shape, IsShape, shape_of}
use Rattle.r6_layout.specs.declared.geometry.GeometryError.{GeometryError}
use Rattle.r6_layout.specs.declared.geometry.GeometryError.TheVariants.{Slots, Chunk, Block, Rows, Shards}
use Rattle.r6_script.specs.declared.script.Call.TheVariants.{Perform, Answer, Do, Tell, Look, Turn}
use Rattle.r6_script.specs.declared.script.Completion.{Completion}
use Rattle.r6_script.specs.declared.script.Task.{Task}
use Rattle.r6_script.specs.declared.script.Script.{Script}
use Rattle.r6_script.specs.declared.script.ScriptFault.{ScriptFault}
use Rattle.r6_script.specs.declared.script.ScriptFault.TheVariants.{Line, Memory}
use Rattle.r6_script.specs.declared.script.Event.{Event}
use Rattle.r6_script.specs.declared.script.Event.TheVariants.{Read, Write, At, Fail, Attach, Replace}
use Rattle.r6_script.specs.Script.{Text, Adds, CannotAdd, Explains, IsNumber, IsByte, IsEvent, IsScript, Reads, Say, array_line, byte_word, completion_word, is_passed_over, line_of, lines_of, lines_saying, said_of, task_word, without_comments}

-- ---- numbers

numerals : IsNumeralModel (AllDigits 10) (digits_value 10)
numerals = numerals_by_value (AllDigits 10) tells_digits

digits_of_number : (n : ℕ) → IsNumber n → AllDigits 10 (decimal n)
digits_of_number n fits = digits_decimal numerals n fits

-- a number's word begins with 0 only where it is 0
lead : (n : ℕ) → IsNumber n → get_or (decimal n) 0 0 ≡ 48 → n ≡ 0
lead n fits starts = elim (nat_lt 0 n) as (λ b. nat_lt 0 n ≡ b → n ≡ 0) [
  | true ↦ λ e. let above : 0 < n = grind (arith, nat_tests) in let more : 48 < get_or (decimal n) 0 0 = first_decimal n above fits in absurd (omega arith)
  | false ↦ λ e. grind (arith, nat_tests)
] refl

zero_word : decimal 0 ≡ 48 ∷ []
unfolding digits
zero_word = refl

-- what a test of the first byte says
pub first_is : (word : Text) (c : ℕ) (r : Bool) → r ≡ (get_or word 0 0 == c) → r ≡ true → get_or word 0 0 ≡ c
first_is word c r e holds = let both : (get_or word 0 0 == c) ≡ true = sym e ∙ holds in grind (arith, nat_tests)

pub first_is_not : (word : Text) (c : ℕ) (r : Bool) → r ≡ (get_or word 0 0 == c) → r ≡ false → get_or word 0 0 ≢ c
first_is_not word c r e fails is = let both : (get_or word 0 0 == c) ≡ false = sym e ∙ fails in grind (arith, nat_tests)

-- no number's word begins with a plus
pub no_plus : (word : Text) → get_or word 0 0 ≡ 43 → (n : ℕ) → IsNumber n → word ≢ decimal n
no_plus word plus n fits e =
    not_in_digits numerals (decimal n) 43 (digits_of_number n fits) (λ r. omega arith) 0 (decimal_nonempty n fits) (sym (ap (λ (w : Text). get_or w 0 0) e) ∙ plus)

-- a number's word that begins with 0 is `0`
pub leading_zero : (word : Text) → get_or word 0 0 ≡ 48 → (n : ℕ) → IsNumber n → word ≡ decimal n → word ≡ codes "0"
leading_zero word starts n fits e =
    let none : n ≡ 0 = lead n fits (sym (ap (λ (w : Text). get_or w 0 0) e) ∙ starts) in
    e ∙ ap decimal none ∙ zero_word

pub reads_zero : (word : Text) → word ≡ codes "0" → IsNumber 0 × (word ≡ decimal 0)
reads_zero word e = (omega arith, e ∙ sym zero_word)

-- what `parse` gives of a word that begins with no plus and no 0
pub reads_number : {E : Type 0} (word : Text) (r : Result ℕ E) → ParsesUnsigned 64 10 word r → get_or word 0 0 ≢ 43 → get_or word 0 0 ≢ 48
    → Reads decimal IsNumber word (result_ok r)
reads_number {E = E} word (Ok n) h plus starts =
    let r : Result ℕ E = Ok n in
    let parsed = parse_plain numerals {E = E} 64 word r h plus in
    let is : decimal (digits_value 10 word) ≡ word = decimal-digits_value numerals word parsed.0.0 parsed.0.1 (λ is. absurd (starts is)) parsed.0.2 in
    let same : n ≡ digits_value 10 word = parsed.1 in
    let fits : IsNumber (digits_value 10 word) = parsed.0.2 in
    rw same (fits, sym is)
reads_number {E = E} word (Err e) h plus starts =
    λ n fits is. let r : Result ℕ E = Err e in let other : r ≡ Ok n = parse-decimal {E = E} 64 n word r fits fits is h in cc

-- what `==` says of two texts
pub same_text : (a b : Text) → true ≡ pointwise eqb a b → a ≡ b
same_text a b e = (slice_eq-Decides Decides-eqb a b true e).0 refl

pub other_text : (a b : Text) → false ≡ pointwise eqb a b → a ≢ b
other_text a b e same = let both : false ≡ true = (slice_eq-Decides Decides-eqb a b false e).1 same in cc

-- ---- a number's word ends before a character that is no digit

range_value : (c : ℕ) → IsInRange 48 57 c → digit_value c < 10
range_value c h = grind (arith, nat_tests)

lacks : (c : ℕ) → 10 ≤ digit_value c → (word : Text) → AllDigits 10 word → (i : ℕ) → i < length word → get_or word i 0 ≢ c
lacks c other word is i within e =
    let here : IsInRange 48 57 (get_or word i 0) = digit_at word i is within in
    let there : IsInRange 48 57 c = subst (λ (b : ℕ). IsInRange 48 57 b) e here in
    let small : digit_value c < 10 = range_value c there in
    absurd (omega arith)

tail_of : Text → Text
tail_of [] = []
tail_of (x ∷ xs) = xs

cut_digits : (c : ℕ) → 10 ≤ digit_value c → (a b xs ys : Text) → AllDigits 10 a → AllDigits 10 b → a ++ c ∷ xs ≡ b ++ c ∷ ys → (a ≡ b) × (xs ≡ ys)
unfolding tail_of
cut_digits c other [] [] xs ys p q e = (refl, ap tail_of e)
cut_digits c other [] (d ∷ b) xs ys p q e =
    let same : c ≡ d = ap (λ (word : Text). get_or word 0 0) e in
    let small : digit_value d < 10 = q.0 in
    let high : 10 ≤ digit_value d = subst (λ (x : ℕ). 10 ≤ digit_value x) same other in
    absurd (omega arith)
cut_digits c other (d ∷ a) [] xs ys p q e =
    let same : d ≡ c = ap (λ (word : Text). get_or word 0 0) e in
    let small : digit_value d < 10 = p.0 in
    let high : 10 ≤ digit_value d = subst (λ (x : ℕ). 10 ≤ digit_value x) (sym same) other in
    absurd (omega arith)
cut_digits c other (d ∷ a) (f ∷ b) xs ys p q e =
    let same : d ≡ f = ap (λ (word : Text). get_or word 0 0) e in
    let more = cut_digits c other a b xs ys p.1 q.1 (ap tail_of e) in
    let fronts : a ≡ b = more.0 in
    (cc, more.1)

-- two numbers with the same words before the same character are one, and so is what comes after
pub cut_number : (c : ℕ) → 10 ≤ digit_value c → (m n : ℕ) (xs ys : Text) → IsNumber m → IsNumber n → decimal m ++ c ∷ xs ≡ decimal n ++ c ∷ ys → (m ≡ n) × (xs ≡ ys)
cut_number c other m n xs ys p q e =
    let cut = cut_digits c other (decimal m) (decimal n) xs ys (digits_of_number m p) (digits_of_number n q) e in
    (decimal_injective m n p q cut.0, cut.1)

-- where a text is not cut at the character, it begins with no number before it
pub uncut : (c : ℕ) → c < 128 → 10 ≤ digit_value c → (text : Text) → IsSplitOnceResult c text None → (n : ℕ) (rest : Text) → IsNumber n → text ≢ decimal n ++ c ∷ rest
uncut c ascii other text h n rest fits e =
    split_after c text (decimal n) rest None h ascii e (lacks c other (decimal n) (digits_of_number n fits))

-- where it is cut after a word that is no number, neither
pub cut_elsewhere : (c : ℕ) → c < 128 → 10 ≤ digit_value c → (text : Text) (found : Bor Text × Bor Text) → IsSplitOnceResult c text (Some found)
    → ((n : ℕ) → IsNumber n → found.0.now ≢ decimal n) → (n : ℕ) (rest : Text) → IsNumber n → text ≢ decimal n ++ c ∷ rest
cut_elsewhere c ascii other text found h none n rest fits e =
    none n fits (split_after c text (decimal n) rest (Some found) h ascii e (lacks c other (decimal n) (digits_of_number n fits))).0

-- ---- lines

-- two texts that begin with other bytes are not the same
pub other_first : (a b : ℕ) (xs ys : Text) → (a == b) ≡ false → a ∷ xs ≢ b ∷ ys
other_first a b xs ys differ e = let same : a ≡ b = ap (λ (word : Text). get_or word 0 0) e in grind (arith, nat_tests)

pub drop_same : (n : ℕ) (xs ys : Text) → xs ≡ ys → drop n xs ≡ drop n ys
drop_same n xs ys e = ap (λ (word : Text). drop n word) e

pub only_write : (text : Text) (event : Event) → codes "write" ++ 32 ∷ text ≡ line_of event → IsEvent event
    → (block : ℕ) × (byte : ℕ) × IsNumber block × IsByte byte × (text ≡ decimal block ++ 32 ∷ byte_word byte)
only_write text (Read block) e is = absurd (other_first 119 114 _ _ refl e)
only_write text (Write block byte) e is = (block, byte, is.0, is.1, drop_same 6 _ _ e)
only_write text (At shard (Perform token)) e is = absurd (other_first 119 112 _ _ refl e)
only_write text (At shard (Answer token completion)) e is = absurd (other_first 119 97 _ _ refl e)
only_write text (At shard (Do token)) e is = absurd (other_first 119 100 _ _ refl e)
only_write text (At shard Tell) e is = absurd (other_first 119 116 _ _ refl e)
only_write text (At shard Look) e is = absurd (other_first 119 108 _ _ refl e)
only_write text (At shard (Turn task)) e is = absurd (other_first 119 116 _ _ refl e)
only_write text (Fail slot) e is = absurd (other_first 119 102 _ _ refl e)
only_write text (Attach slot) e is = absurd (other_first 119 97 _ _ refl e)
only_write text (Replace slot) e is = absurd (other_first 119 114 _ _ refl e)

pub only_answer : (text : Text) (event : Event) → codes "answer" ++ 32 ∷ text ≡ line_of event → IsEvent event
    → (shard : ℕ) × (token : ℕ) × (completion : Completion) × IsNumber shard × IsNumber token
    × (text ≡ decimal shard ++ 58 ∷ (decimal token ++ 32 ∷ completion_word completion))
only_answer text (Read block) e is = absurd (other_first 97 114 _ _ refl e)
only_answer text (Write block byte) e is = absurd (other_first 97 119 _ _ refl e)
only_answer text (At shard (Perform token)) e is = absurd (other_first 97 112 _ _ refl e)
only_answer text (At shard (Answer token completion)) e is =
    (shard, token, completion, is.0, is.1, drop_same 7 _ _ e ∙ append_assoc (decimal shard) (58 ∷ decimal token) (32 ∷ completion_word completion))
only_answer text (At shard (Do token)) e is = absurd (other_first 97 100 _ _ refl e)
only_answer text (At shard Tell) e is = absurd (other_first 97 116 _ _ refl e)
only_answer text (At shard Look) e is = absurd (other_first 97 108 _ _ refl e)
only_answer text (At shard (Turn task)) e is = absurd (other_first 97 116 _ _ refl e)
only_answer text (Fail slot) e is = absurd (other_first 97 102 _ _ refl e)
only_answer text (Attach slot) e is = absurd (other_first 110 116 _ _ refl (drop_same 1 _ _ e))
only_answer text (Replace slot) e is = absurd (other_first 97 114 _ _ refl e)

pub only_turn : (text : Text) (event : Event) → codes "turn" ++ 32 ∷ text ≡ line_of event → IsEvent event
    → (shard : ℕ) × (task : Task) × IsNumber shard × (text ≡ decimal shard ++ 32 ∷ task_word task)
only_turn text (Read block) e is = absurd (other_first 116 114 _ _ refl e)
only_turn text (Write block byte) e is = absurd (other_first 116 119 _ _ refl e)
only_turn text (At shard (Perform token)) e is = absurd (other_first 116 112 _ _ refl e)
only_turn text (At shard (Answer token completion)) e is = absurd (other_first 116 97 _ _ refl e)
only_turn text (At shard (Do token)) e is = absurd (other_first 116 100 _ _ refl e)
only_turn text (At shard Tell) e is = absurd (other_first 117 101 _ _ refl (drop_same 1 _ _ e))
only_turn text (At shard Look) e is = absurd (other_first 116 108 _ _ refl e)
only_turn text (At shard (Turn task)) e is = (shard, task, is.0, drop_same 5 _ _ e)
only_turn text (Fail slot) e is = absurd (other_first 116 102 _ _ refl e)
only_turn text (Attach slot) e is = absurd (other_first 116 97 _ _ refl e)
only_turn text (Replace slot) e is = absurd (other_first 116 114 _ _ refl e)

-- what is read of a text is read of the same text
pub reads_same : {A : Type 0} (text_of : A → Text) (Is : A → Type 0) (a b : Text) (answer : Option A) → a ≡ b → Reads text_of Is b answer → Reads text_of Is a answer
reads_same text_of Is a b answer e h = subst (λ (text : Text). Reads text_of Is text answer) (sym e) h

-- a text after a prefix that was stripped
pub stripped : (p s x : Text) (n : ℕ) → FindsTextPrefix p s (Some n) → x ≡ drop n s → s ≡ p ++ x
stripped p s x n h e = h.1 ∙ ap (λ (rest : Text). p ++ rest) (sym e)

-- ---- the array's line, a number at a time

abbrev pub from_shards : Shape → Text
from_shards shape = decimal shape.shards

abbrev pub from_rows : Shape → Text
from_rows shape = decimal shape.rows ++ 32 ∷ from_shards shape

abbrev pub from_block : Shape → Text
from_block shape = decimal shape.block ++ 32 ∷ from_rows shape

abbrev pub from_chunk : Shape → Text
from_chunk shape = decimal shape.chunk ++ 32 ∷ from_block shape

abbrev pub from_slots : Shape → Text
from_slots shape = decimal shape.slots ++ 32 ∷ from_chunk shape

pub after_array : (text : Text) (shape : Shape) → codes "array " ++ text ≡ array_line shape → text ≡ from_slots shape
after_array text shape e = drop_same 6 _ _ e

pub record HasNumbers (shape : Shape) : Type 0 where
  pub slots : IsNumber shape.slots
  pub chunk : IsNumber shape.chunk
  pub block : IsNumber shape.block
  pub rows : IsNumber shape.rows
  pub shards : IsNumber shape.shards

pub numbers_of : (shape : Shape) → IsShape shape → HasNumbers shape
numbers_of shape is = record {
  slots = omega (arith, is.slots_allowed.1);
  chunk = omega (arith, is.chunk_allowed.1);
  block = omega (arith, is.block_allowed.1);
  rows = omega (arith, is.rows_allowed.1);
  shards = omega (arith, is.shards_allowed.1);
}

-- after the first number of a text comes what comes after it
pub peeled : (text : Text) (m n : ℕ) (xs ys : Text) → IsNumber m → IsNumber n → text ≡ decimal m ++ 32 ∷ xs → text ≡ decimal n ++ 32 ∷ ys → (m ≡ n) × (xs ≡ ys)
peeled text m n xs ys p q e f = cut_number 32 (lit≤ tt) m n xs ys p q (sym e ∙ f)

no_fault : (shape : Shape) (fault : GeometryError) → IsShape shape → ¬ limits.IsFirstFault shape fault
no_fault shape Slots is h = h is.slots_allowed
no_fault shape Chunk is h = h.1 is.chunk_allowed
no_fault shape Block is h = h.2 is.block_allowed
no_fault shape Rows is h = h.3 is.rows_allowed
no_fault shape Shards is h = h.4 is.shards_allowed

-- one line is one array's
same_array : (a b : Shape) → HasNumbers a → HasNumbers b → from_slots a ≡ from_slots b → a ≡ b
same_array a b m n e =
    let slots = cut_number 32 (lit≤ tt) a.slots b.slots (from_chunk a) (from_chunk b) m.slots n.slots e in
    let chunk = cut_number 32 (lit≤ tt) a.chunk b.chunk (from_block a) (from_block b) m.chunk n.chunk slots.1 in
    let block = cut_number 32 (lit≤ tt) a.block b.block (from_rows a) (from_rows b) m.block n.block chunk.1 in
    let rows = cut_number 32 (lit≤ tt) a.rows b.rows (from_shards a) (from_shards b) m.rows n.rows block.1 in
    let shards : a.shards ≡ b.shards = decimal_injective a.shards b.shards m.shards n.shards rows.1 in
    let slots_same : a.slots ≡ b.slots = slots.0 in
    let chunk_same : a.chunk ≡ b.chunk = chunk.0 in
    let block_same : a.block ≡ b.block = block.0 in
    let rows_same : a.rows ≡ b.rows = rows.0 in
    let same : shape_of a.slots a.chunk a.block a.rows a.shards ≡ shape_of b.slots b.chunk b.block b.rows b.shards = cc in
    same

-- what a geometry's test of the five numbers of a line says of the line
pub made_array : (line : Text) (read : Shape) → HasNumbers read → line ≡ array_line read
    → (r : Result Shape GeometryError) → IfOk r (λ shape. shape ≡ read) → IfOk r IsShape → IfErr r (limits.IsFirstFault read) → Reads array_line IsShape line (result_ok r)
made_array line read numbers e (Ok shape) made is fault = (is, e ∙ ap array_line (sym made))
made_array line read numbers e (Err err) made is fault =
    λ shape good same.
    let found : read ≡ shape = same_array read shape numbers (numbers_of shape good) (drop_same 6 _ _ (sym e ∙ same)) in
    no_fault read err (subst IsShape (sym found) good) fault

-- ---- scripts

-- of things that each make a line, the last made the last line
pub last_written : {X : Type 0} (line_by : X → Text) (IsGood : X → Type 0) (xs : List X) (ys : List Text) (y : Text) → All IsGood xs → map line_by xs ≡ ys ++ y ∷ []
    → (x : X) × IsGood x × (y ≡ line_by x)
last_written line_by IsGood [] [] y all e = cc
last_written line_by IsGood [] (z ∷ ys) y all e = cc
last_written line_by IsGood (x ∷ xs) [] y all e = (x, all 0 x (omega arith), cc)
last_written line_by IsGood (x ∷ xs) (z ∷ ys) y all e = last_written line_by IsGood xs ys y (λ k d within. all (suc k) d (omega arith)) cc

pub cannot_add_event : (shape : Shape) (events : List Event) (line : Text) → ((event : Event) → IsEvent event → line ≢ line_of event) → CannotAdd (Some (shape, events)) line
cannot_add_event shape events line none None h = cc
cannot_add_event shape events line none (Some said) h =
    let lines : map line_of said.1 ≡ map line_of events ++ line ∷ [] = cc in
    let last = last_written line_of IsEvent said.1 (map line_of events) line h.0.1 lines in
    none last.0 last.1 last.2

pub cannot_add_array : (line : Text) → ((shape : Shape) → IsShape shape → line ≢ array_line shape) → CannotAdd None line
cannot_add_array line none None h = cc
cannot_add_array line none (Some said) h = none said.0 h.0.0 (cc)

-- the lines of a text, as they are gone over
module _ {s t : Split ℕ} (text : Text) (from : t ≡ s) (begun : split_text s ≡ text) (more : split_has_more s ≡ true) (cut : split_pattern s ≡ 10)
    (passed : List (Bor Text)) (u : Split ℕ) (run : Yields (split_steps FindsChar (λ a b. b ≡ a)) t passed u) (i : ℕ) (count : i ≡ length passed) where
  lines_come : YieldsList (split_steps FindsChar (λ a b. b ≡ a)) (λ (line : Bor Text). line.now) t (lines_of text)
  lines_come = YieldsList-at from (YieldsList-from_str_split {s = s} 10 text (lit< tt) begun more cut)

  -- there is a line more, and it is this one
  pub next_line : (answer : Option (Bor Text)) (w : Split ℕ) (line : Bor Text) → answer ≡ Some line → split_steps FindsChar (λ a b. b ≡ a) u answer w
      → (i < length (lines_of text)) × (line.now ≡ get_or (lines_of text) i line.now)
  next_line answer w line is step =
      let here = YieldsList-turn lines_come passed u run answer w line is step in
      subst (λ k. (k < length (lines_of text)) × (line.now ≡ get_or (lines_of text) k line.now)) (sym count) here

  -- there is none more
  pub no_line : (answer : Option (Bor Text)) (w : Split ℕ) → answer ≡ None → split_steps FindsChar (λ a b. b ≡ a) u answer w → length (lines_of text) ≤ i
  no_line answer w is step =
      let end = YieldsList-end lines_come passed u run answer w is step in
      omega (arith, end.1, count)

-- one more line
pub filter_one : (lines : List Text) (i : ℕ) (d : Text) → i < length lines → is_passed_over (get_or lines i d) ≡ false → without_comments (take (i + 1) lines) ≡ without_comments (take i lines) ++ get_or lines i d ∷ []
filter_one lines i d within counts = filter_more (λ line. not (is_passed_over line)) lines i d within ∙ rw counts refl

pub filter_none : (lines : List Text) (i : ℕ) (d : Text) → i < length lines → is_passed_over (get_or lines i d) ≡ true → without_comments (take (i + 1) lines) ≡ without_comments (take i lines)
filter_none lines i d within counts = filter_more (λ line. not (is_passed_over line)) lines i d within ∙ rw (counts, append-nil) refl

-- the lines of a text, some of which were read
pub record HasRead (lines : List Text) (count : ℕ) (script : Option Script) : Type 0 where
  pub say : Say (take count lines) (said_of script)

pub none_read : (lines : List Text) → HasRead lines 0 None
none_read lines = record { say = (tt, refl) }

-- at the end all lines were read
pub all_read : (lines : List Text) (i : ℕ) (script : Option Script) → HasRead lines i script → length lines ≤ i → Say lines (said_of script)
all_read lines i script read end = subst (λ (all : List Text). Say all (said_of script)) (take_all i lines end) read.say

module _ (lines : List Text) (i : ℕ) (line : Text) (script : Option Script) (read : HasRead lines i script)
    (here : (i < length lines) × (line ≡ get_or lines i line)) where
  module _ (counts : false ≡ is_passed_over line) where
    one_more : without_comments (take (i + 1) lines) ≡ lines_saying (said_of script) ++ line ∷ []
    one_more =
        filter_one lines i line here.0 (ap is_passed_over (sym here.1) ∙ sym counts)
        ∙ ap (λ (last : Text). without_comments (take i lines) ++ last ∷ []) (sym here.1)
        ∙ ap (λ (before : List Text). before ++ line ∷ []) read.say.1

    pub read_line : (next : Option Script) → Adds (said_of script) line (said_of next) → HasRead lines (i + 1) next
    read_line next adds = record { say = (adds.0, one_more ∙ sym adds.1) }

    pub explained : (fault : ScriptFault) → (fault ≢ Memory → (fault ≡ Line (i + 1)) × CannotAdd (said_of script) line) → Explains lines fault
    explained Memory h = tt
    explained (Line n) h =
        let why = h (λ (e : Line n ≡ Memory). cc) in
        let line_is : Line n ≡ Line (i + 1) = why.0 in
        let n_is : n ≡ i + 1 = cc in
        let first : IsScript (take (n - 1) lines) = let back : i + 1 - 1 ≡ i = omega arith in rw (n_is, back) (said_of script, read.say) in
        let last : ¬ IsScript (take n lines) = rw n_is (λ script_is. why.1 script_is.0 (script_is.1.0, sym script_is.1.1 ∙ one_more)) in
        (first, last)

  pub pass_line : true ≡ is_passed_over line → HasRead lines (i + 1) script
  pass_line passed = record { say = (read.say.0, filter_none lines i line here.0 (ap is_passed_over (sym here.1) ∙ sym passed) ∙ read.say.1) }
