-- Words that ask for no option and say a command are words in which clap finds no fault.
use Rattle.std.proofs.Common.{◌≡◌, ◌≢◌, inl, inr, Result, Ok, Err, IfErr, ◌==◌, ℕ, ◌||◌, Bool, true, false, cond, List, [], ◌∷◌, ◌++◌, Option, Some, None, codes, drop, fold, refl, ap, ap₂, subst, sym, ◌∙◌}
use Rattle.std.proofs.lemmas.Slice.Eq.{bytes_eq-Decides}
use Rattle.std.specs.Option.{option_map_or}
use Rattle.std.specs.Prelude.{option_and_then}
use Rattle.std.specs.Str.{bytes_eq}
use Rattle.clap.specs.Values.{kind_of}
use Rattle.clap.specs.Lexer.{long_of, long_of_rest, short_of, short_of_rest, strip_byte}
use Rattle.clap.specs.Kinds.{FailsBy, HasKind, Kinds, or_else}
use Rattle.clap.specs.declared.error.Error.{Error}
use Rattle.clap.specs.declared.error.kind.ErrorKind.TheVariants.{OutOfMemory}
use Rattle.clap.specs.Walk.{Held, Names, Row, Step, Text, Walk, idle, value, after_step, long_or_other, nothing_held, short_or_plain, subcommand_met, walked}
use Rattle.clap.specs.Simple.{Shape}
use Rattle.clap.specs.Faults.{bundle_fault, defaults_fault, fault_of, flag_word_fault, level_fault, step_fault, turn_fault, walk_fault}
use Rattle.r6_command.specs.CommandLine.{Asked, asks_option, command_with, geometry, create, verify, simulate, run, has_option, is_option, operands, said}
use Rattle.r6_command.specs.Grammar.{grammar}
use Rattle.r6_command.proofs.GrammarLemmas.{end_fault, first, named_walk, names, one_path, start, stop_is, stopped_at, top, top_fault, two_paths, with_first, with_second, words_fault}
use Rattle.r6_command.proofs.Walks.{after_value, dashes, held_at, walk_at}

-- ---- a word that is no option

long_single : (b : Bool) → option_and_then long_of_rest (option_and_then (strip_byte 45) (cond b (Some []) None)) ≡ None
long_single true = refl
long_single false = refl

no_long : (word : Text) → is_option word ≡ false → long_of word ≡ None
no_long [] e = refl
no_long (letter ∷ []) e = long_single (letter == 45)
no_long (letter ∷ next ∷ rest) e = rw e refl

short_single : (b : Bool) → option_and_then short_of_rest (cond b (Some []) None) ≡ None
short_single true = refl
short_single false = refl

no_short : (word : Text) → is_option word ≡ false → short_of word ≡ None
no_short [] e = refl
no_short (letter ∷ []) e = short_single (letter == 45)
no_short (letter ∷ next ∷ rest) e = rw e refl

-- ---- the walk over words with no fault

-- the walk over the words finds no fault, and ends so
abbrev Passes : Shape → Names → Walk → List Text → (Walk → Type 0) → Type 0
Passes s names w words Q = (walk_fault s names w words ≡ []) × Q (fold (walked s.rules names) w words)

module _ (s : Shape) (names : Names) (rows : List Row) (pending : Option (Text × List Text)) (position : ℕ) (word : Text) (words : List Text) (Q : Walk → Type 0) where
  trailing_passes : step_fault s position (held_at rows pending) value ≡ [] → Passes s names (after_value s word (walk_at rows pending position true)) words Q
      → Passes s names (walk_at rows pending position true) (word ∷ words) Q
  unfolding walked walk_fault
  trailing_passes step rest = (ap₂ or_else step rest.0, rest.1)

  flag_fault : is_option word ≡ false → flag_word_fault s.rules s.args_override_self (long_of word) word (held_at rows pending) ≡ []
  flag_fault plain = ap (λ l. flag_word_fault s.rules s.args_override_self l word (held_at rows pending)) (no_long word plain)
      ∙ ap (λ o. option_map_or (λ flags. bundle_fault s.rules s.args_override_self flags (held_at rows pending)) o []) (no_short word plain)

  met_plain : is_option word ≡ false → long_or_other s.rules idle word (long_of word) (held_at rows pending) ≡ (held_at rows pending, value)
  met_plain plain = ap (λ l. long_or_other s.rules idle word l (held_at rows pending)) (no_long word plain) ∙ ap (λ o. short_or_plain s.rules idle word o (held_at rows pending)) (no_short word plain)

  module _ (other : subcommand_met names idle word ≡ None) where
    turn_at_dashes : bytes_eq word dashes ≡ true → turn_fault s names (walk_at rows pending position false) word ≡ []
    turn_at_dashes e = rw (other, e) refl

    walked_at_dashes : bytes_eq word dashes ≡ true → walked s.rules names (walk_at rows pending position false) word ≡ walk_at rows pending position true
    unfolding walked
    walked_at_dashes e = rw (other, e) refl

    dashes_pass : bytes_eq word dashes ≡ true → Passes s names (walk_at rows pending position true) words Q → Passes s names (walk_at rows pending position false) (word ∷ words) Q
    unfolding walk_fault
    dashes_pass e rest = (
      ap₂ or_else (turn_at_dashes e) (ap (λ (w : Walk). walk_fault s names w words) (walked_at_dashes e) ∙ rest.0),
      subst (λ (w : Walk). Q (fold (walked s.rules names) w words)) (sym (walked_at_dashes e)) rest.1,
    )

    turn_at_word : bytes_eq word dashes ≡ false → turn_fault s names (walk_at rows pending position false) word ≡ or_else (flag_word_fault s.rules s.args_override_self (long_of word) word (held_at rows pending))
        (step_fault s position (long_or_other s.rules idle word (long_of word) (held_at rows pending)).0 (long_or_other s.rules idle word (long_of word) (held_at rows pending)).1)
    turn_at_word e = rw (other, e) refl

    walked_at_word : bytes_eq word dashes ≡ false → walked s.rules names (walk_at rows pending position false) word
        ≡ after_step s.rules word (walk_at rows pending position false) (long_or_other s.rules idle word (long_of word) (held_at rows pending)).0 (long_or_other s.rules idle word (long_of word) (held_at rows pending)).1
    unfolding walked
    walked_at_word e = rw (other, e) refl

    word_passes : bytes_eq word dashes ≡ false → is_option word ≡ false → step_fault s position (held_at rows pending) value ≡ []
        → Passes s names (after_value s word (walk_at rows pending position false)) words Q → Passes s names (walk_at rows pending position false) (word ∷ words) Q
    unfolding walk_fault
    word_passes e plain step rest =
        let goes = walked_at_word e ∙ ap (λ (p : Held × Step). after_step s.rules word (walk_at rows pending position false) p.0 p.1) (met_plain plain) in
        let free = turn_at_word e ∙ ap₂ (λ (k : Kinds) (p : Held × Step). or_else k (step_fault s position p.0 p.1)) (flag_fault plain) (met_plain plain) ∙ step in (
          ap₂ or_else free (ap (λ (w : Walk). walk_fault s names w words) goes ∙ rest.0),
          subst (λ (w : Walk). Q (fold (walked s.rules names) w words)) (sym goes) rest.1,
        )

-- ---- the paths of a command

or_first : (a b : Bool) → (a || b) ≡ false → a ≡ false
or_first false b e = refl
or_first true b e = cc

or_next : (a b : Bool) → (a || b) ≡ false → b ≡ false
or_next false b e = e
or_next true b e = cc

rest_is : {a b : Text} {xs ys : List Text} → a ∷ xs ≡ b ∷ ys → xs ≡ ys
rest_is e = ap (λ (l : List Text). drop 1 l) e

module _ (n : Text) where
  abbrev one : Shape
  one = one_path n

  -- nothing is wrong at the end
  abbrev IsFaultless : Walk → Type 0
  IsFaultless w = end_fault one w ≡ []

  one_full : (path : Text) → Passes one [] (walk_at [] (Some (first, path ∷ [])) 2 true) [] IsFaultless
  unfolding walk_fault defaults_fault
  one_full path = (refl, refl)

  one_trailing : (path : Text) (words : List Text) → words ≡ path ∷ [] → Passes one [] (walk_at [] None 1 true) words IsFaultless
  one_trailing path words is = subst (λ (ws : List Text). Passes one [] (walk_at [] None 1 true) ws IsFaultless) (sym is)
      (trailing_passes one [] [] None 1 path [] IsFaultless refl (one_full path))

  one_end_by : (path word : Text) (words : List Text) (b : Bool) → bytes_eq word dashes ≡ b → cond b words (word ∷ operands words) ≡ []
      → Passes one [] (walk_at [] (Some (first, path ∷ [])) 2 false) (word ∷ words) IsFaultless
  one_end_by path word words true e is = dashes_pass one [] [] (Some (first, path ∷ [])) 2 word words IsFaultless refl e
      (subst (λ (ws : List Text). Passes one [] (walk_at [] (Some (first, path ∷ [])) 2 true) ws IsFaultless) (sym is) (one_full path))
  one_end_by path word words false e is = cc

  one_end : (path : Text) (words : List Text) → operands words ≡ [] → Passes one [] (walk_at [] (Some (first, path ∷ [])) 2 false) words IsFaultless
  unfolding walk_fault defaults_fault
  one_end path [] is = (refl, refl)
  one_end path (word ∷ words) is = one_end_by path word words (bytes_eq word dashes) refl is

  one_by : (path word : Text) (words : List Text) (b : Bool) → bytes_eq word dashes ≡ b → cond b words (word ∷ operands words) ≡ path ∷ [] → cond b false (is_option word || has_option words) ≡ false
      → Passes one [] start (word ∷ words) IsFaultless
  one_by path word words true e is plain = dashes_pass one [] [] None 1 word words IsFaultless refl e (one_trailing path words is)
  one_by path word words false e is plain = word_passes one [] [] None 1 word words IsFaultless refl e (or_first _ _ plain) refl (one_end word words (rest_is is))

  one_passes : (path : Text) (words : List Text) → operands words ≡ path ∷ [] → has_option words ≡ false → Passes one [] start words IsFaultless
  one_passes path [] is plain = cc
  one_passes path (word ∷ words) is plain = one_by path word words (bytes_eq word dashes) refl is plain

  pub one_level : (path : Text) (words : List Text) → operands words ≡ path ∷ [] → has_option words ≡ false → level_fault one [] nothing_held words false [] ≡ []
  one_level path words is plain = let r = one_passes path words is plain in ap₂ or_else r.0 r.1

  abbrev two : Shape
  two = two_paths n

  abbrev AreFaultless : Walk → Type 0
  AreFaultless w = end_fault two w ≡ []

  -- the walk after the first path, and after both
  abbrev once : Text → Bool → Walk
  once path is_trailing = with_first n path is_trailing

  abbrev twice : Text → Text → Bool → Walk
  twice path script is_trailing = with_second n path script is_trailing

  two_full : (path script : Text) → Passes two [] (twice path script true) [] AreFaultless
  unfolding walk_fault defaults_fault
  two_full path script = (refl, refl)

  second_trailing : (path script : Text) (words : List Text) → words ≡ script ∷ [] → Passes two [] (once path true) words AreFaultless
  second_trailing path script words is = subst (λ (ws : List Text). Passes two [] (once path true) ws AreFaultless) (sym is)
      (trailing_passes two [] [] (Some (first, path ∷ [])) 2 script [] AreFaultless refl (two_full path script))

  two_trailing : (path script : Text) (words : List Text) → words ≡ path ∷ script ∷ [] → Passes two [] (walk_at [] None 1 true) words AreFaultless
  two_trailing path script words is = subst (λ (ws : List Text). Passes two [] (walk_at [] None 1 true) ws AreFaultless) (sym is)
      (trailing_passes two [] [] None 1 path (script ∷ []) AreFaultless refl (second_trailing path script (script ∷ []) refl))

  two_end_by : (path script word : Text) (words : List Text) (b : Bool) → bytes_eq word dashes ≡ b → cond b words (word ∷ operands words) ≡ [] → Passes two [] (twice path script false) (word ∷ words) AreFaultless
  two_end_by path script word words true e is = dashes_pass two [] (twice path script false).held.rows (twice path script false).held.pending 3 word words AreFaultless refl e
      (subst (λ (ws : List Text). Passes two [] (twice path script true) ws AreFaultless) (sym is) (two_full path script))
  two_end_by path script word words false e is = cc

  two_end : (path script : Text) (words : List Text) → operands words ≡ [] → Passes two [] (twice path script false) words AreFaultless
  unfolding walk_fault defaults_fault
  two_end path script [] is = (refl, refl)
  two_end path script (word ∷ words) is = two_end_by path script word words (bytes_eq word dashes) refl is

  second_by : (path script word : Text) (words : List Text) (b : Bool) → bytes_eq word dashes ≡ b → cond b words (word ∷ operands words) ≡ script ∷ [] → cond b false (is_option word || has_option words) ≡ false
      → Passes two [] (once path false) (word ∷ words) AreFaultless
  second_by path script word words true e is plain = dashes_pass two [] [] (Some (first, path ∷ [])) 2 word words AreFaultless refl e (second_trailing path script words is)
  second_by path script word words false e is plain = word_passes two [] [] (Some (first, path ∷ [])) 2 word words AreFaultless refl e (or_first _ _ plain) refl (two_end path word words (rest_is is))

  second_passes : (path script : Text) (words : List Text) → operands words ≡ script ∷ [] → has_option words ≡ false → Passes two [] (once path false) words AreFaultless
  second_passes path script [] is plain = cc
  second_passes path script (word ∷ words) is plain = second_by path script word words (bytes_eq word dashes) refl is plain

  two_by : (path script word : Text) (words : List Text) (b : Bool) → bytes_eq word dashes ≡ b → cond b words (word ∷ operands words) ≡ path ∷ script ∷ [] → cond b false (is_option word || has_option words) ≡ false
      → Passes two [] start (word ∷ words) AreFaultless
  two_by path script word words true e is plain = dashes_pass two [] [] None 1 word words AreFaultless refl e (two_trailing path script words is)
  two_by path script word words false e is plain = word_passes two [] [] None 1 word words AreFaultless refl e (or_first _ _ plain) refl (second_passes word script words (rest_is is) (or_next _ _ plain))

  two_passes : (path script : Text) (words : List Text) → operands words ≡ path ∷ script ∷ [] → has_option words ≡ false → Passes two [] start words AreFaultless
  two_passes path script [] is plain = cc
  two_passes path script (word ∷ words) is plain = two_by path script word words (bytes_eq word dashes) refl is plain

  pub two_level : (path script : Text) (words : List Text) → operands words ≡ path ∷ script ∷ [] → has_option words ≡ false → level_fault two [] nothing_held words false [] ≡ []
  two_level path script words is plain = let r = two_passes path script words is plain in ap₂ or_else r.0 r.1

-- ---- the command's name

stopped_passes : (n : Text) (left words : List Text) → walk_fault top names (stopped_at n left) words ≡ []
unfolding walk_fault walked
stopped_passes n left [] = refl
stopped_passes n left (word ∷ words) = stopped_passes n (left ++ word ∷ []) words

-- the walk goes to the command of this name, and its words have no fault
named_passes : (n : Text) (words : List Text) → subcommand_met names idle n ≡ Some n → turn_fault top names start n ≡ [] → top_fault (stopped_at n words) ≡ [] → words_fault n words ≡ []
unfolding walk_fault
named_passes n words met turns ends = ap₂ or_else
    (ap₂ or_else turns (ap (λ (w : Walk). walk_fault top names w words) (named_walk n n met) ∙ stopped_passes n [] words))
    (subst (λ (w : Walk). top_fault w ≡ []) (sym (stop_is n n words met)) ends)

-- the words after the command's name have no fault
abbrev IsTaken : Text → List Text → Type 0
IsTaken name words = words_fault name words ≡ []

at_name : (name n : Text) (words : List Text) → bytes_eq n name ≡ true → IsTaken n words → IsTaken name words
at_name name n words e taken = subst (λ (m : Text). IsTaken m words) ((bytes_eq-Decides n name).0 e) taken

taken_one : (name path : Text) (words : List Text) (b1 b2 b3 b4 : Bool) (asked : Asked)
    → bytes_eq (codes "geometry") name ≡ b1 → bytes_eq (codes "create") name ≡ b2 → bytes_eq (codes "verify") name ≡ b3 → bytes_eq (codes "simulate") name ≡ b4
    → cond b1 (Some (geometry path)) (cond b2 (Some (create path)) (cond b3 (Some (verify path)) (cond b4 (Some (simulate path)) None))) ≡ Some asked
    → operands words ≡ path ∷ [] → has_option words ≡ false → IsTaken name words
unfolding defaults_fault
taken_one name path words true b2 b3 b4 asked e1 e2 e3 e4 says is plain =
    at_name name (codes "geometry") words e1 (named_passes (codes "geometry") words refl refl (ap₂ or_else (one_level (codes "geometry") path words is plain) refl))
taken_one name path words false true b3 b4 asked e1 e2 e3 e4 says is plain =
    at_name name (codes "create") words e2 (named_passes (codes "create") words refl refl (ap₂ or_else (one_level (codes "create") path words is plain) refl))
taken_one name path words false false true b4 asked e1 e2 e3 e4 says is plain =
    at_name name (codes "verify") words e3 (named_passes (codes "verify") words refl refl (ap₂ or_else (one_level (codes "verify") path words is plain) refl))
taken_one name path words false false false true asked e1 e2 e3 e4 says is plain =
    at_name name (codes "simulate") words e4 (named_passes (codes "simulate") words refl refl (ap₂ or_else (one_level (codes "simulate") path words is plain) refl))
taken_one name path words false false false false asked e1 e2 e3 e4 says is plain = cc

taken_two : (name path script : Text) (words : List Text) (b : Bool) (asked : Asked) → bytes_eq (codes "run") name ≡ b → cond b (Some (run path script)) None ≡ Some asked
    → operands words ≡ path ∷ script ∷ [] → has_option words ≡ false → IsTaken name words
unfolding defaults_fault
taken_two name path script words true asked e says is plain =
    at_name name (codes "run") words e (named_passes (codes "run") words refl refl (ap₂ or_else (two_level (codes "run") path script words is plain) refl))
taken_two name path script words false asked e says is plain = cc

taken_by : (name : Text) (words paths : List Text) (asked : Asked) → operands words ≡ paths → command_with name paths ≡ Some asked → has_option words ≡ false → IsTaken name words
taken_by name words [] asked is says plain = cc
taken_by name words (path ∷ []) asked is says plain =
    taken_one name path words (bytes_eq (codes "geometry") name) (bytes_eq (codes "create") name) (bytes_eq (codes "verify") name) (bytes_eq (codes "simulate") name) asked refl refl refl refl says is plain
taken_by name words (path ∷ script ∷ []) asked is says plain = taken_two name path script words (bytes_eq (codes "run") name) asked refl says is plain
taken_by name words (path ∷ script ∷ more ∷ rest) asked is says plain = cc

-- words that ask for no option and say a command have no fault
pub taken : (words : List Text) (asked : Asked) → asks_option words ≡ false → said words ≡ Some asked → fault_of grammar words ≡ []
unfolding walk_fault defaults_fault
taken [] asked plain says = cc
taken (program ∷ []) asked plain says = cc
taken (program ∷ name ∷ words) asked plain says = taken_by name words (operands words) asked refl says plain

says_none : (error : Error) (words : List Text) → HasKind (fault_of grammar words) error → kind_of error ≢ OutOfMemory → asks_option words ≡ false → (o : Option Asked) → said words ≡ o → o ≡ None
says_none error words fails other plain None is = refl
says_none error words fails other plain (Some asked) is =
    let found : HasKind [] error = subst (λ (kinds : Kinds). HasKind kinds error) (taken words asked plain is) fails in
    elim found [
      | inl memory ↦ absurd (other memory)
      | inr among ↦ absurd among
    ]

-- words that clap refuses say no command, unless they ask for an option or memory failed
pub refusal_says_none : {T : Type 0} (r : Result T Error) (words : List Text) → FailsBy (fault_of grammar words) r
    → IfErr r (λ error. kind_of error ≢ OutOfMemory → asks_option words ≡ false → said words ≡ None)
refusal_says_none (Ok matches) words fails = tt
refusal_says_none (Err error) words fails = λ other plain. says_none error words fails other plain (said words) refl
