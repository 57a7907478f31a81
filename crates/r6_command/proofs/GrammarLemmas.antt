-- What the grammar of the command line makes of words that it takes.
use Rattle.std.proofs.Common.{◌≡◌, ◌==◌, Bool, true, false, cond, ◌||◌, List, [], ◌∷◌, Option, Some, None, option_map, codes, fold, is_some, Result, Ok, Err, IfOk, refl, ap, ap₂, subst, sym, ◌∙◌}
use Rattle.std.proofs.lemmas.Option.{same_Some}
use Rattle.std.specs.Str.{bytes_eq}
use Rattle.clap.specs.Kinds.{FailsBy, Kinds, or_else}
use Rattle.clap.specs.Walk.{Held, Names, Row, Rule, Text, Walk, finished, first_of, idle, nothing_held, rows_after, settled, subcommand_met, walked}
use Rattle.clap.specs.Simple.{App, Shape, built, built_leaf, entered, filled, help_rule, inherited, marked_built, names_of, on_top, subcommand_of, version_rule, with_leaf_noted}
use Rattle.clap.specs.Faults.{check_fault, defaults_fault, entered_fault, fault_of, level_fault, long_fault, react_fault, settle_fault, short_fault, use_fault, walk_fault}
use Rattle.clap.proofs.WalkLemmas.{walk_stopped}
use Rattle.clap.specs.declared.error.Error.{Error}
use Rattle.r6_command.specs.CommandLine.{Asked, geometry, create, verify, simulate, run, operands, said, command_with}
use Rattle.r6_command.specs.Grammar.{asked_in, grammar, named, with_one_path, with_two_paths}
use Rattle.r6_command.proofs.Walks.{Ends, NoOption, after_value, dashes, next_word, or_else_first, or_else_next, trailing_word, walk_at}

abbrev above : Shape
above = (on_top with_leaf_noted (on_top marked_built grammar)).top

-- the commands as clap builds them
abbrev pub one_path : Text → Shape
one_path name = built_leaf (inherited above (with_one_path name).top)

abbrev pub two_paths : Text → Shape
two_paths name = built_leaf (inherited above (with_two_paths name).top)

abbrev pub top : Shape
top = (built grammar).top

abbrev help : Rule
help = filled help_rule

abbrev version : Rule
version = filled version_rule

-- ---- help is the only option of a command, and above the commands there is the version

not_nil : {A : Type 0} {x : A} {xs : List A} → x ∷ xs ≡ [] → ⊥
not_nil e = cc

help_long : (rules : List Rule) (b : Bool) (v : Option Text) (h : Held) → long_fault rules false (cond b (Some help) None) v h ≡ [] → ⊥
help_long rules false v h e = not_nil e
help_long rules true None h e =
    let asked : use_fault false help [] (settled rules h).rows ≡ [] = or_else_next (settle_fault rules false h) _ e in not_nil asked
help_long rules true (Some v) h e = not_nil e

help_short : (rules : List Rule) (b : Bool) (rest : Text) (h : Held) (next : Held → Kinds) → short_fault rules false (cond b (Some help) None) rest h next ≡ [] → ⊥
help_short rules false rest h next e = not_nil e
help_short rules true rest h next e =
    let reacts : react_fault rules false help [] h ≡ [] = or_else_first _ _ e in
    let asked : use_fault false help [] (settled rules h).rows ≡ [] = or_else_next (settle_fault rules false h) _ reacts in not_nil asked

top_long : (rules : List Rule) (b also : Bool) (v : Option Text) (h : Held) → long_fault rules false (cond b (Some help) (cond also (Some version) None)) v h ≡ [] → ⊥
top_long rules true also v h e = help_long rules true v h e
top_long rules false false v h e = not_nil e
top_long rules false true None h e =
    let asked : use_fault false version [] (settled rules h).rows ≡ [] = or_else_next (settle_fault rules false h) _ e in not_nil asked
top_long rules false true (Some v) h e = not_nil e

top_short : (rules : List Rule) (b also : Bool) (rest : Text) (h : Held) (next : Held → Kinds)
    → short_fault rules false (cond b (Some help) (cond also (Some version) None)) rest h next ≡ [] → ⊥
top_short rules true also rest h next e = help_short rules true rest h next e
top_short rules false false rest h next e = not_nil e
top_short rules false true rest h next e =
    let reacts : react_fault rules false version [] h ≡ [] = or_else_first _ _ e in
    let asked : use_fault false version [] (settled rules h).rows ≡ [] = or_else_next (settle_fault rules false h) _ reacts in not_nil asked

one_has_no_option : (name : Text) → NoOption (one_path name)
one_has_no_option name = record {
  no_long = λ n v h e. help_long (one_path name).rules (bytes_eq (codes "help") n || false) v h e;
  no_short = λ x rest h next e. help_short (one_path name).rules ((104 == x) || false) rest h next e;
}

two_have_no_option : (name : Text) → NoOption (two_paths name)
two_have_no_option name = record {
  no_long = λ n v h e. help_long (two_paths name).rules (bytes_eq (codes "help") n || false) v h e;
  no_short = λ x rest h next e. help_short (two_paths name).rules ((104 == x) || false) rest h next e;
}

top_has_no_option : NoOption top
top_has_no_option = record {
  no_long = λ n v h e. top_long top.rules (bytes_eq (codes "help") n || false) (bytes_eq (codes "version") n || false) v h e;
  no_short = λ x rest h next e. top_short top.rules ((104 == x) || false) ((86 == x) || false) rest h next e;
}

-- ---- the paths of a command

-- what is wrong at the end of a command's words
abbrev pub end_fault : Shape → Walk → Kinds
end_fault s w = or_else (settle_fault s.rules s.args_override_self w.held) (or_else (defaults_fault (settled s.rules w.held).rows s.rules) (check_fault s (finished s.rules w.held) false))

abbrev pub first : Text
first = codes "first"

abbrev second : Text
second = codes "second"

no_dashes : (word : Text) (words : List Text) → bytes_eq word dashes ≡ false → operands (word ∷ words) ≡ word ∷ operands words
no_dashes word words e = rw e

past_dashes : (word : Text) (words : List Text) → bytes_eq word dashes ≡ true → operands (word ∷ words) ≡ words
past_dashes word words e = rw e

module _ (name : Text) where
  abbrev one : Shape
  one = one_path name

  -- the first path is the one that was found, and these are the operands
  abbrev HasFirst : Walk → Text → Type 0
  HasFirst w path = first_of first (finished one.rules w.held) ≡ Some path

  -- where nothing is wrong at the end, the first path was found and no word is left
  abbrev OneLeft : Text → List Text → Walk → Type 0
  OneLeft path left w = end_fault one w ≡ [] → HasFirst w path × (left ≡ [])

  one_full : (path : Text) (words : List Text) → Ends one [] (walk_at [] (Some (first, path ∷ [])) 2 true) words (OneLeft path words)
  unfolding walk_fault
  one_full path [] = λ e f. (refl, refl)
  one_full path (word ∷ words) = trailing_word one [] [] (Some (first, path ∷ [])) 2 word words (OneLeft path (word ∷ words)) (λ e. absurd (not_nil e))

  one_after : (path : Text) (words : List Text) → Ends one [] (walk_at [] (Some (first, path ∷ [])) 2 false) words (OneLeft path (operands words))
  unfolding walk_fault
  one_after path [] = λ e f. (refl, refl)
  one_after path (word ∷ words) = next_word one [] [] (Some (first, path ∷ [])) 2 word words (OneLeft path (operands (word ∷ words))) (one_has_no_option name) refl
      (λ is e f. let r = one_full path words e f in (r.0, past_dashes word words is ∙ r.1))
      (λ is e. absurd (not_nil e))

  -- where nothing is wrong at the end, the paths are the one that was found
  abbrev OnePath : List Text → Walk → Type 0
  OnePath paths w = end_fault one w ≡ [] → (path : Text) × HasFirst w path × (paths ≡ path ∷ [])

  one_trailing : (words : List Text) → Ends one [] (walk_at [] None 1 true) words (OnePath words)
  unfolding walk_fault defaults_fault
  one_trailing [] = λ e f. absurd (not_nil f)
  one_trailing (word ∷ words) = trailing_word one [] [] None 1 word words (OnePath (word ∷ words))
      (λ _ e f. let r = one_full word words e f in (word, r.0, ap (λ ws. word ∷ ws) r.1))

  one_from : (words : List Text) → Ends one [] (walk_at [] None 1 false) words (OnePath (operands words))
  unfolding walk_fault defaults_fault
  one_from [] = λ e f. absurd (not_nil f)
  one_from (word ∷ words) = next_word one [] [] None 1 word words (OnePath (operands (word ∷ words))) (one_has_no_option name) refl
      (λ is e f. let r = one_trailing words e f in (r.0, r.1, past_dashes word words is ∙ r.2))
      (λ is _ e f. let r = one_after word words e f in (word, r.0, no_dashes word words is ∙ ap (λ ws. word ∷ ws) r.1))

  abbrev two : Shape
  two = two_paths name

  abbrev HasBoth : Walk → Text → Text → Type 0
  HasBoth w path script = (first_of first (finished two.rules w.held) ≡ Some path) × (first_of second (finished two.rules w.held) ≡ Some script)

  -- the walk once the first path, or both, have been read
  abbrev pub with_first : Text → Bool → Walk
  with_first path is_trailing = walk_at [] (Some (first, path ∷ [])) 2 is_trailing

  abbrev pub with_second : Text → Text → Bool → Walk
  with_second path script is_trailing = after_value two script (with_first path is_trailing)

  -- where nothing is wrong at the end, both paths were found and no word is left
  abbrev BothLeft : Text → Text → List Text → Walk → Type 0
  BothLeft path script left w = end_fault two w ≡ [] → HasBoth w path script × (left ≡ [])

  two_full : (path script : Text) (words : List Text) → Ends two [] (with_second path script true) words (BothLeft path script words)
  unfolding walk_fault
  two_full path script [] = λ e f. ((refl, refl), refl)
  two_full path script (word ∷ words) = trailing_word two [] (with_second path script true).held.rows (with_second path script true).held.pending 3 word words (BothLeft path script (word ∷ words)) (λ e. absurd (not_nil e))

  two_after : (path script : Text) (words : List Text) → Ends two [] (with_second path script false) words (BothLeft path script (operands words))
  unfolding walk_fault
  two_after path script [] = λ e f. ((refl, refl), refl)
  two_after path script (word ∷ words) = next_word two [] (with_second path script false).held.rows (with_second path script false).held.pending 3 word words (BothLeft path script (operands (word ∷ words))) (two_have_no_option name) refl
      (λ is e f. let r = two_full path script words e f in (r.0, past_dashes word words is ∙ r.1))
      (λ is e. absurd (not_nil e))

  -- where nothing is wrong at the end, the paths after the first are the one that was found
  abbrev SecondPath : Text → List Text → Walk → Type 0
  SecondPath path scripts w = end_fault two w ≡ [] → (script : Text) × HasBoth w path script × (scripts ≡ script ∷ [])

  second_trailing : (path : Text) (words : List Text) → Ends two [] (with_first path true) words (SecondPath path words)
  unfolding walk_fault defaults_fault
  second_trailing path [] = λ e f. absurd (not_nil f)
  second_trailing path (word ∷ words) = trailing_word two [] [] (Some (first, path ∷ [])) 2 word words (SecondPath path (word ∷ words))
      (λ _ e f. let r = two_full path word words e f in (word, r.0, ap (λ ws. word ∷ ws) r.1))

  second_from : (path : Text) (words : List Text) → Ends two [] (with_first path false) words (SecondPath path (operands words))
  unfolding walk_fault defaults_fault
  second_from path [] = λ e f. absurd (not_nil f)
  second_from path (word ∷ words) = next_word two [] [] (Some (first, path ∷ [])) 2 word words (SecondPath path (operands (word ∷ words))) (two_have_no_option name) refl
      (λ is e f. let r = second_trailing path words e f in (r.0, r.1, past_dashes word words is ∙ r.2))
      (λ is _ e f. let r = two_after path word words e f in (word, r.0, no_dashes word words is ∙ ap (λ ws. word ∷ ws) r.1))

  -- where nothing is wrong at the end, the paths are the two that were found
  abbrev TwoPaths : List Text → Walk → Type 0
  TwoPaths paths w = end_fault two w ≡ [] → (path script : Text) × HasBoth w path script × (paths ≡ path ∷ script ∷ [])

  two_trailing : (words : List Text) → Ends two [] (walk_at [] None 1 true) words (TwoPaths words)
  unfolding walk_fault defaults_fault
  two_trailing [] = λ e f. absurd (not_nil f)
  two_trailing (word ∷ words) = trailing_word two [] [] None 1 word words (TwoPaths (word ∷ words))
      (λ _ e f. let r = second_trailing word words e f in (word, r.0, r.1, ap (λ ws. word ∷ ws) r.2))

  two_from : (words : List Text) → Ends two [] (walk_at [] None 1 false) words (TwoPaths (operands words))
  unfolding walk_fault defaults_fault
  two_from [] = λ e f. absurd (not_nil f)
  two_from (word ∷ words) = next_word two [] [] None 1 word words (TwoPaths (operands (word ∷ words))) (two_have_no_option name) refl
      (λ is e f. let r = two_trailing words e f in (r.0, r.1, r.2, past_dashes word words is ∙ r.3))
      (λ is _ e f. let r = second_from word words e f in (word, r.0, r.1, no_dashes word words is ∙ ap (λ ws. word ∷ ws) r.2))

-- ---- the command's name

abbrev pub app : App
app = built grammar

abbrev pub names : Names
names = names_of app

abbrev pub start : Walk
start = walk_at [] None 1 false

-- what is wrong after the walk over the program's words
abbrev pub top_fault : Walk → Kinds
top_fault w = or_else (entered_fault app w.stopped) (or_else (settle_fault top.rules top.args_override_self w.held) (or_else (defaults_fault (settled top.rules w.held).rows top.rules)
    (check_fault top (finished top.rules w.held) (is_some (entered app w.stopped)))))

-- something is wrong at the end
abbrev IsRefused : Walk → Type 0
IsRefused w = top_fault w ≡ [] → ⊥

top_trailing : (words : List Text) → Ends top names (walk_at [] None 1 true) words IsRefused
unfolding walk_fault defaults_fault
top_trailing [] = λ e f. not_nil f
top_trailing (word ∷ words) = trailing_word top names [] None 1 word words IsRefused (λ e. absurd (not_nil e))

-- a word that names no command is refused
no_command : (name : Text) (words : List Text) → subcommand_met names idle name ≡ None → Ends top names start (name ∷ words) IsRefused
no_command name words other = next_word top names [] None 1 name words IsRefused top_has_no_option other (λ _. top_trailing words) (λ is e. absurd (not_nil e))

-- the walk stops at a command's name, with the words after it
abbrev pub stopped_at : Text → List Text → Walk
stopped_at n words = record start { stopped = Some (n, words) }

pub named_walk : (name n : Text) → subcommand_met names idle name ≡ Some n → walked top.rules names start name ≡ stopped_at n []
unfolding walked
named_walk name n e = rw e refl

pub stop_is : (name n : Text) (words : List Text) → subcommand_met names idle name ≡ Some n → fold (walked top.rules names) start (name ∷ words) ≡ stopped_at n words
stop_is name n words e = ap (λ (w : Walk). fold (walked top.rules names) w words) (named_walk name n e) ∙ sym (walk_stopped top.rules names start n [] words)

-- what is found of a command with one path
abbrev FindsOne : Text → (Text → Asked) → List Text → Type 0
FindsOne n make words = top_fault (stopped_at n words) ≡ [] → (path : Text) × (asked_in (entered app (Some (n, words))) ≡ Some (make path)) × (operands words ≡ path ∷ [])

abbrev rows_of_one : Text → List Text → List Row
rows_of_one n words = rows_after (one_path n).rules [] words

one_paths : (n : Text) (words : List Text) → level_fault (one_path n) [] nothing_held words false [] ≡ [] → (path : Text) × (first_of first (rows_of_one n words) ≡ Some path) × (operands words ≡ path ∷ [])
one_paths n words inner = one_from n words (or_else_first _ _ inner) (or_else_next (walk_fault (one_path n) [] start words) _ inner)

finds_geometry : (words : List Text) → FindsOne (codes "geometry") geometry words
finds_geometry words f =
    let r = one_paths (codes "geometry") words (or_else_first _ _ f) in
    (r.0, ap (λ (o : Option Text). named (codes "geometry") o (first_of second (rows_of_one (codes "geometry") words))) r.1, r.2)

finds_create : (words : List Text) → FindsOne (codes "create") create words
finds_create words f =
    let r = one_paths (codes "create") words (or_else_first _ _ f) in
    (r.0, ap (λ (o : Option Text). named (codes "create") o (first_of second (rows_of_one (codes "create") words))) r.1, r.2)

finds_verify : (words : List Text) → FindsOne (codes "verify") verify words
finds_verify words f =
    let r = one_paths (codes "verify") words (or_else_first _ _ f) in
    (r.0, ap (λ (o : Option Text). named (codes "verify") o (first_of second (rows_of_one (codes "verify") words))) r.1, r.2)

finds_simulate : (words : List Text) → FindsOne (codes "simulate") simulate words
finds_simulate words f =
    let r = one_paths (codes "simulate") words (or_else_first _ _ f) in
    (r.0, ap (λ (o : Option Text). named (codes "simulate") o (first_of second (rows_of_one (codes "simulate") words))) r.1, r.2)

abbrev rows_of_two : Text → List Text → List Row
rows_of_two n words = rows_after (two_paths n).rules [] words

both_paths : (n : Text) (words : List Text) → level_fault (two_paths n) [] nothing_held words false [] ≡ []
    → (path script : Text) × ((first_of first (rows_of_two n words) ≡ Some path) × (first_of second (rows_of_two n words) ≡ Some script)) × (operands words ≡ path ∷ script ∷ [])
both_paths n words inner = two_from n words (or_else_first _ _ inner) (or_else_next (walk_fault (two_paths n) [] start words) _ inner)

finds_run : (words : List Text) → top_fault (stopped_at (codes "run") words) ≡ []
    → (path script : Text) × (asked_in (entered app (Some (codes "run", words))) ≡ Some (run path script)) × (operands words ≡ path ∷ script ∷ [])
finds_run words f =
    let r = both_paths (codes "run") words (or_else_first _ _ f) in
    (r.0, r.1, ap₂ (λ (o s : Option Text). named (codes "run") o s) r.2.0 r.2.1, r.3)

-- what is wrong with the program's words
abbrev pub words_fault : Text → List Text → Kinds
words_fault name words = or_else (walk_fault top names start (name ∷ words)) (top_fault (fold (walked top.rules names) start (name ∷ words)))

abbrev Accepts : Text → List Text → Type 0
Accepts name words = (asked : Asked) × (asked_in (entered app (fold (walked top.rules names) start (name ∷ words)).stopped) ≡ Some asked) × (command_with name (operands words) ≡ Some asked)

-- a fault after the walk, where it stopped at this name
at_stop : (name n : Text) (words : List Text) → subcommand_met names idle name ≡ Some n → words_fault name words ≡ [] → top_fault (stopped_at n words) ≡ []
at_stop name n words met e =
    subst (λ (w : Walk). top_fault w ≡ []) (stop_is name n words met) (or_else_next (walk_fault top names start (name ∷ words)) _ e)

found_at : (name n : Text) (words : List Text) (asked : Asked) → subcommand_met names idle name ≡ Some n → asked_in (entered app (Some (n, words))) ≡ Some asked
    → asked_in (entered app (fold (walked top.rules names) start (name ∷ words)).stopped) ≡ Some asked
found_at name n words asked met is = subst (λ (w : Walk). asked_in (entered app w.stopped) ≡ Some asked) (sym (stop_is name n words met)) is

accepts_one : (name n : Text) (make : Text → Asked) (words : List Text) → subcommand_met names idle name ≡ Some n → FindsOne n make words
    → ((path : Text) → command_with name (path ∷ []) ≡ Some (make path)) → words_fault name words ≡ [] → Accepts name words
accepts_one name n make words met finds says e =
    let r = finds (at_stop name n words met e) in
    (make r.0, found_at name n words (make r.0) met r.1, ap (command_with name) r.2 ∙ says r.0)

run_with : (name path script : Text) → bytes_eq (codes "run") name ≡ true → command_with name (path ∷ script ∷ []) ≡ Some (run path script)
run_with name path script e = rw e refl

says_run : (name path script : Text) (paths : List Text) → paths ≡ path ∷ script ∷ [] → bytes_eq (codes "run") name ≡ true → command_with name paths ≡ Some (run path script)
says_run name path script paths is e = ap (command_with name) is ∙ run_with name path script e

by_names : (name : Text) (words : List Text) (b1 b2 b3 b4 b5 : Bool)
    → bytes_eq (codes "geometry") name ≡ b1 → bytes_eq (codes "create") name ≡ b2 → bytes_eq (codes "verify") name ≡ b3 → bytes_eq (codes "simulate") name ≡ b4 → bytes_eq (codes "run") name ≡ b5
    → words_fault name words ≡ [] → Accepts name words
by_names name words true b2 b3 b4 b5 e1 e2 e3 e4 e5 e =
    accepts_one name (codes "geometry") geometry words (rw e1 refl) (finds_geometry words) (λ path. rw e1 refl) e
by_names name words false true b3 b4 b5 e1 e2 e3 e4 e5 e =
    accepts_one name (codes "create") create words (rw (e1, e2) refl) (finds_create words) (λ path. rw (e1, e2) refl) e
by_names name words false false true b4 b5 e1 e2 e3 e4 e5 e =
    accepts_one name (codes "verify") verify words (rw (e1, e2, e3) refl) (finds_verify words) (λ path. rw (e1, e2, e3) refl) e
by_names name words false false false true b5 e1 e2 e3 e4 e5 e =
    accepts_one name (codes "simulate") simulate words (rw (e1, e2, e3, e4) refl) (finds_simulate words) (λ path. rw (e1, e2, e3, e4) refl) e
by_names name words false false false false true e1 e2 e3 e4 e5 e =
    let met : subcommand_met names idle name ≡ Some (codes "run") = rw (e1, e2, e3, e4, e5) refl in
    let r = finds_run words (at_stop name (codes "run") words met e) in
    (run r.0 r.1, found_at name (codes "run") words (run r.0 r.1) met r.2, says_run name r.0 r.1 (operands words) r.3 e5)
by_names name words false false false false false e1 e2 e3 e4 e5 e =
    absurd (no_command name words (rw (e1, e2, e3, e4, e5) refl) (or_else_first _ _ e) (or_else_next (walk_fault top names start (name ∷ words)) _ e))

-- words in which clap finds no fault are a command's, and clap finds what they say
pub accepted : (words : List Text) → fault_of grammar words ≡ [] → (asked : Asked) × (asked_in (subcommand_of grammar words) ≡ Some asked) × (said words ≡ Some asked)
unfolding walk_fault defaults_fault
accepted [] e = absurd (not_nil e)
accepted (program ∷ []) e = absurd (not_nil e)
accepted (program ∷ name ∷ words) e =
    by_names name words (bytes_eq (codes "geometry") name) (bytes_eq (codes "create") name) (bytes_eq (codes "verify") name) (bytes_eq (codes "simulate") name) (bytes_eq (codes "run") name)
    refl refl refl refl refl e

-- of an answer that holds a fact and came where there is no fault
pub IfOk-faultless : {T : Type 0} (r : Result T Error) (P Q : T → Type 0) (kinds : Kinds) → IfOk r P → FailsBy kinds r → ((m : T) → P m → kinds ≡ [] → Q m) → IfOk r Q
IfOk-faultless (Ok m) P Q kinds p f k = k m p f
IfOk-faultless (Err e) P Q kinds p f k = tt

-- a name and rows that were found of the same value, together
pub paired : {A X Y : Type 0} (f : A → X) (g : A → Y) (o : Option A) (x : X) (y : Y) → Some x ≡ option_map f o → Some y ≡ option_map (λ (p : X × Y). p.1) (option_map {T = A} {U = X × Y} (λ b. (f b, g b)) o)
    → option_map {T = A} {U = X × Y} (λ b. (f b, g b)) o ≡ Some (x, y)
paired {X = X} {Y = Y} f g None x y e h = cc
paired {X = X} {Y = Y} f g (Some a) x y e h =
    let x_is : x ≡ f a = same_Some _ _ e in
    let y_is : y ≡ g a = same_Some _ _ h in
    ap₂ (λ (p : X) (q : Y). let pair : X × Y = (p, q) in Some pair) (sym x_is) (sym y_is)
