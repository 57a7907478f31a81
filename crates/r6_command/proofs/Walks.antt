-- What a parse makes of words that are not known, for a command whose only option is `--help`.
use Rattle.std.proofs.Common.{◌≡◌, ℕ, Bool, true, false, cond, List, [], ◌∷◌, Option, Some, None, slice_get, fold, refl, subst, sym, ◌∙◌}
use Rattle.std.specs.Str.{bytes_eq, chars}
use Rattle.std.specs.Option.{option_map_or}
use Rattle.clap.specs.Lexer.{long_of, short_of}
use Rattle.clap.specs.Kinds.{Kinds, or_else}
use Rattle.clap.specs.Walk.{Held, Names, Outcome, Row, Step, Text, Walk, idle, value, plain, trailing, arg_by_index, arg_by_long, arg_by_short, after_flag, after_step, bundle_met, bundle_step, long_or_other, short_or_plain, subcommand_met, to_positional, walked}
use Rattle.clap.specs.Simple.{Shape}
use Rattle.clap.specs.Faults.{bundle_step_fault, flag_word_fault, flags_fault, bundle_fault, long_fault, short_fault, step_fault, turn_fault, walk_fault}

-- of two lists that follow one another, both are empty where the first found is
pub or_else_first : (a b : Kinds) → or_else a b ≡ [] → a ≡ []
or_else_first [] b e = refl
or_else_first (k ∷ ks) b e = cc

pub or_else_next : (a b : Kinds) → or_else a b ≡ [] → b ≡ []
or_else_next [] b e = e
or_else_next (k ∷ ks) b e = cc

-- each option of the command is refused, or answered with help
pub record NoOption (s : Shape) : Type 0 where
  pub no_long : (name : Text) (v : Option Text) (h : Held) → long_fault s.rules s.args_override_self (arg_by_long s.rules name) v h ≡ [] → ⊥
  pub no_short : (x : ℕ) (rest : Text) (h : Held) (next : Held → Kinds) → short_fault s.rules s.args_override_self (arg_by_short s.rules x) rest h next ≡ [] → ⊥

-- no part of a bundle of flags is passed over
abbrev pub held_at : List Row → Option (Text × List Text) → Held
held_at rows pending = record { rows = rows; pending = pending; skip = 0 }

-- where the walk stands before a word, with nothing that waits for a value
abbrev pub walk_at : List Row → Option (Text × List Text) → ℕ → Bool → Walk
walk_at rows pending position is_trailing = record { held = held_at rows pending; waiting = idle; position = position; is_trailing = is_trailing; stopped = None }

module _ (s : Shape) (facts : NoOption s) (rows : List Row) (pending : Option (Text × List Text)) (word : Text) where
  -- a bundle that begins with a character is refused
  bundle_case : (o : Option ℕ) (flags : Text) (next : Text → ℕ → Held → Kinds) (met : Text → ℕ → Outcome → Held → Held × Outcome)
      → bundle_step_fault s.rules s.args_override_self o flags 0 (held_at rows pending) next ≡ []
      → after_flag s.rules idle word (bundle_step s.rules o flags 0 plain (held_at rows pending) met).0 (bundle_step s.rules o flags 0 plain (held_at rows pending) met).1 ≡ (held_at rows pending, value)
  bundle_case None flags next met e = refl
  bundle_case (Some x) flags next met e = absurd (facts.no_short x _ (held_at rows pending) _ e)

  short_case : (o : Option Text) → option_map_or (λ flags. bundle_fault s.rules s.args_override_self flags (held_at rows pending)) o [] ≡ []
      → short_or_plain s.rules idle word o (held_at rows pending) ≡ (held_at rows pending, value)
  unfolding bundle_met flags_fault
  short_case None e = refl
  short_case (Some []) e = refl
  short_case (Some (x ∷ xs)) e = bundle_case (slice_get (chars (x ∷ xs)) 0) (x ∷ xs) _ _ e

  long_case : (l : Option (Text × Option Text)) → flag_word_fault s.rules s.args_override_self l word (held_at rows pending) ≡ []
      → long_or_other s.rules idle word l (held_at rows pending) ≡ (held_at rows pending, value)
  long_case None e = short_case (short_of word) e
  long_case (Some p) e = absurd (facts.no_long p.0 p.1 (held_at rows pending) e)

-- ---- the walk, where it finds no fault

abbrev pub dashes : Text
dashes = 45 ∷ 45 ∷ []

-- the walk over the words finds no fault and ends so
abbrev pub Ends : Shape → Names → Walk → List Text → (Walk → Type 0) → Type 0
Ends s names w words Q = walk_fault s names w words ≡ [] → Q (fold (walked s.rules names) w words)

-- the walk after a word that goes to a positional
abbrev pub after_value : Shape → Text → Walk → Walk
after_value s word w = to_positional s.rules (arg_by_index s.rules w.position) word w w.held

module _ (s : Shape) (names : Names) (rows : List Row) (pending : Option (Text × List Text)) (position : ℕ) (word : Text) (words : List Text) (Q : Walk → Type 0) where
  -- after `--` each word goes to a positional
  pub trailing_word : (step_fault s position (held_at rows pending) value ≡ [] → Ends s names (after_value s word (walk_at rows pending position true)) words Q)
      → Ends s names (walk_at rows pending position true) (word ∷ words) Q
  unfolding walked walk_fault
  trailing_word goes e = goes (or_else_first _ _ e) (or_else_next (step_fault s position (held_at rows pending) value) _ e)

  module _ (facts : NoOption s) (other : subcommand_met names idle word ≡ None) where
    -- the faults and the walk, by whether the word is `--`
    abbrev fault_with : Bool → Kinds
    fault_with b = or_else (cond b [] (flag_word_fault s.rules s.args_override_self (long_of word) word (held_at rows pending)))
        (step_fault s position (cond b (held_at rows pending, trailing position) (long_or_other s.rules idle word (long_of word) (held_at rows pending))).0 (cond b (held_at rows pending, trailing position) (long_or_other s.rules idle word (long_of word) (held_at rows pending))).1)

    abbrev walked_with : Bool → Walk
    walked_with b = after_step s.rules word (walk_at rows pending position false) (cond b (held_at rows pending, trailing position) (long_or_other s.rules idle word (long_of word) (held_at rows pending))).0 (cond b (held_at rows pending, trailing position) (long_or_other s.rules idle word (long_of word) (held_at rows pending))).1

    turn_is : turn_fault s names (walk_at rows pending position false) word ≡ fault_with (bytes_eq word dashes)
    turn_is = rw other refl

    walked_is : walked s.rules names (walk_at rows pending position false) word ≡ walked_with (bytes_eq word dashes)
    unfolding walked
    walked_is = rw other refl

    by_dashes : (b : Bool) → (b ≡ true → Ends s names (walk_at rows pending position true) words Q)
        → (b ≡ false → step_fault s position (held_at rows pending) value ≡ [] → Ends s names (after_value s word (walk_at rows pending position false)) words Q)
        → fault_with b ≡ [] → Ends s names (walked_with b) words Q
    by_dashes true dashed valued e = dashed refl
    by_dashes false dashed valued e =
        let met : long_or_other s.rules idle word (long_of word) (held_at rows pending) ≡ (held_at rows pending, value) = long_case s facts rows pending word (long_of word) (or_else_first _ _ e) in
        let step : step_fault s position (long_or_other s.rules idle word (long_of word) (held_at rows pending)).0 (long_or_other s.rules idle word (long_of word) (held_at rows pending)).1 ≡ [] =
        or_else_next (flag_word_fault s.rules s.args_override_self (long_of word) word (held_at rows pending)) _ e in
        let found : step_fault s position (held_at rows pending) value ≡ [] = rw met at step in
        subst (λ (p : Held × Step). Ends s names (after_step s.rules word (walk_at rows pending position false) p.0 p.1) words Q) (sym met) (valued refl found)

    -- before `--` a word is it, or goes to a positional
    pub next_word : (bytes_eq word dashes ≡ true → Ends s names (walk_at rows pending position true) words Q)
        → (bytes_eq word dashes ≡ false → step_fault s position (held_at rows pending) value ≡ [] → Ends s names (after_value s word (walk_at rows pending position false)) words Q)
        → Ends s names (walk_at rows pending position false) (word ∷ words) Q
    unfolding walk_fault
    next_word dashed valued e =
        subst (λ (w : Walk). Ends s names w words Q) (sym walked_is)
        (by_dashes (bytes_eq word dashes) dashed valued (sym turn_is ∙ or_else_first (turn_fault s names (walk_at rows pending position false) word) _ e))
        (or_else_next (turn_fault s names (walk_at rows pending position false) word) _ e)
