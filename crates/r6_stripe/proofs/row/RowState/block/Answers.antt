use Rattle.std.proofs.Common.{None, Some, sym, ◌∙◌, MatchOption}
use Rattle.std.specs.Prelude.{Option}
use Rattle.r6_stripe.specs.Views.{held_of}
use Rattle.r6_stripe.proofs.Alone.{cells_alone}
use Rattle.r6_stripe.proofs.BesideOption.{known_option, size_option, unknown_option}
use Rattle.r6_stripe.proofs.row.RowState.block.Goals as goal

pub block-requires : goal.block-requires
block-requires c = record { sound = c.requires.sound.sound; place = c.requires.place }

match_map : {A : Type 0} (o : Option A) (P Q : Type 0) (F G : A → Type 0) → (P → Q) → ((a : A) → F a → G a) → MatchOption o P F → MatchOption o Q G
match_map None P Q F G none some h = none h
match_map (Some a) P Q F G none some h = some a h

pub returns : goal.returns
returns c =
    let row = c.args.self.now in
    let alone = cells_alone row.hold.places row.hold.blocks.items in
    match_map c.block.result _ _ _ _
    (λ none. unknown_option row.second row.spare row.spare_away (held_of row.hold) alone c.requires.sound.second c.args.position none)
    (λ block h. (known_option row.second row.spare row.spare_away (held_of row.hold) alone c.requires.sound.second c.args.position block.now h.0, h.1 ∙ sym (size_option row.second row.spare row.spare_away (held_of row.hold))))
    c.block.ensures
