-- The lines of replies, one after another.
use Rattle.std.proofs.Common.{◌≡◌, ◌∙◌, Bool, true, false, if◌then◌else◌, ℕ, ◌+◌, ◌<◌, ◌≤◌, List, [], ◌∷◌, ◌++◌, length, drop, get_or, refl, ap, sym, arith, append_assoc, append-nil, add-one, drop-cons}
use Rattle.std.proofs.lemmas.List.{drop_all}
use Rattle.r6_script.specs.Script.{Text}
use Rattle.r6_engine.specs.declared.reply.EventReply.{EventReply}
use Rattle.r6_run.specs.Lines.{event_line, is_wait, lines_text}

-- what is printed, and is still to be printed from this place on, is this text
pub record Prints (replies : List EventReply) (printed : Text) (number place : ℕ) : Type 0 where
  pub all : printed ++ lines_text number (drop place replies) ≡ lines_text 0 replies
  pub count : number ≤ place

module _ (replies : List EventReply) (printed : Text) (number place : ℕ) (r : EventReply)
    (within : place < length replies) (prints : Prints replies printed number place) where
  opened : printed ++ lines_text number (get_or replies place r ∷ drop (place + 1) replies) ≡ lines_text 0 replies
  opened =
      let first : drop place replies ≡ get_or replies place r ∷ drop (place + 1) replies = rw add-one (drop-cons replies place r within) in
      ap (λ rs. printed ++ lines_text number rs) (sym first) ∙ prints.all

  abbrev choice : Bool → Text
  choice wait = if wait then lines_text number (drop (place + 1) replies)
      else event_line number (get_or replies place r) ++ lines_text (number + 1) (drop (place + 1) replies)

  pub a_wait : true ≡ is_wait (get_or replies place r) → Prints replies printed number (place + 1)
  a_wait is = record {
    all = ap (λ (wait : Bool). printed ++ choice wait) is ∙ opened;
    count = let before = prints.count in omega (arith, before);
  }

  pub a_line : false ≡ is_wait (get_or replies place r) → (more : Text) → more ≡ printed ++ event_line number (get_or replies place r)
      → Prints replies more (number + 1) (place + 1)
  a_line other more is = record {
    all =
        let rest = lines_text (number + 1) (drop (place + 1) replies) in
        ap (λ (text : Text). text ++ rest) is
        ∙ append_assoc printed (event_line number (get_or replies place r)) rest
        ∙ ap (λ (wait : Bool). printed ++ choice wait) other ∙ opened;
    count = let before = prints.count in omega (arith, before);
  }

pub none_printed : (replies : List EventReply) → Prints replies [] 0 0
none_printed replies = record { all = refl; count = omega arith }

-- past the last event all is printed
pub all_printed : (replies : List EventReply) (printed : Text) (number place : ℕ) → length replies ≤ place
    → Prints replies printed number place → printed ≡ lines_text 0 replies
all_printed replies printed number place end prints =
    let none : drop place replies ≡ [] = drop_all place replies end in
    sym (append-nil printed) ∙ ap (λ rs. printed ++ lines_text number rs) (sym none) ∙ prints.all
