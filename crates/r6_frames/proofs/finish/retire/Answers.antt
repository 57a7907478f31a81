use Rattle.std.proofs.Common.{◌≡◌, ◌++◌, Bool, true, false, ◌∷◌, [], refl, sym, ap, ◌∙◌, arith, length}
use Rattle.std.proofs.lemmas.List.{append-nil}
use Rattle.std.specs.Prelude.{if◌then◌else◌, ◌&&◌, ◌||◌, not}
use Rattle.std.specs.List.{list_any}
use Rattle.std.proofs.lemmas.Bool.{false≢true}
use Rattle.r6_stripe.specs.Frames as buffers
use Rattle.r6_frames.specs.declared.frames.FrameUse.TheVariants.{Free, Returning}
use Rattle.r6_frames.specs.Uses.{has_away}
use Rattle.r6_frames.proofs.finish.retire.Goals as goal

none_away : (away : Bool) → not away ≡ true → away ≡ false
none_away true home = absurd (false≢true home)
none_away false home = refl

some_away : (away : Bool) → not away ≡ false → away ≡ true
some_away true home = refl
some_away false home = absurd (false≢true (sym home))

-- no buffer is away
not_either : (a b : Bool) → (not a && not b) ≡ not (a || b)
not_either true b = refl
not_either false b = refl

neither : (a b : Bool) → (a || b) ≡ false → (a ≡ false) × (b ≡ false)
neither true b is = absurd (false≢true (sym is))
neither false b is = (refl, is)

-- ---- all buffers are home

pub end-requires : goal.end-requires
end-requires c =
    let hold = c.args.hold in
    let any = list_any (λ (away : Bool). away) hold.away in
    let both = neither hold.second_away any (none_away (hold.second_away || any) (sym (not_either hold.second_away any) ∙ sym c.is_home.ensures ∙ c.if-is_home.true)) in
    record { home = both.1; second_home = both.0; ended = c.requires.ended }

pub push_reserved-requires : goal.push_reserved-requires
push_reserved-requires c = omega (arith, c.requires.room, c.args.spare.now.ok.0)

pub returns-then-is_home-clause-left : goal.returns-then-is_home-clause-left
returns-then-is_home-clause-left c =
    let hold = c.args.hold in
    ap (λ (away : Bool). if away then Returning hold c.args.successor else Free) (sym (none_away (has_away hold) (sym (not_either hold.second_away (list_any (λ (away : Bool). away) hold.away)) ∙ sym c.is_home.ensures ∙ c.if-is_home.true)))

pub returns-then-is_home-clause-spare : goal.returns-then-is_home-clause-spare
returns-then-is_home-clause-spare c =
    let hold = c.args.hold in
    let items = c.args.spare.now.items in
    let mine : buffers.Shape = record { count = length hold.planned.hold.cells; size = hold.planned.hold.size } in
    let home = none_away (has_away hold) (sym (not_either hold.second_away (list_any (λ (away : Bool). away) hold.away)) ∙ sym c.is_home.ensures ∙ c.if-is_home.true) in
    c.push_reserved.ensures.items ∙ ap (λ (frame : buffers.Shape). items ++ (frame ∷ [])) c.end.ensures
    ∙ ap (λ (away : Bool). items ++ (if away then [] else mine ∷ [])) (sym home)

pub returns-then-is_home-clause-room : goal.returns-then-is_home-clause-room
returns-then-is_home-clause-room c = c.push_reserved.ensures.capacity

-- ---- buffers are away

pub returns-else-is_home-clause-left : goal.returns-else-is_home-clause-left
returns-else-is_home-clause-left c =
    let hold = c.args.hold in
    ap (λ (away : Bool). if away then Returning hold c.args.successor else Free) (sym (some_away (has_away hold) (sym (not_either hold.second_away (list_any (λ (away : Bool). away) hold.away)) ∙ sym c.is_home.ensures ∙ c.if-is_home.false)))

pub returns-else-is_home-clause-spare : goal.returns-else-is_home-clause-spare
returns-else-is_home-clause-spare c =
    let hold = c.args.hold in
    let items = c.args.spare.now.items in
    let mine : buffers.Shape = record { count = length hold.planned.hold.cells; size = hold.planned.hold.size } in
    let away = some_away (has_away hold) (sym (not_either hold.second_away (list_any (λ (away : Bool). away) hold.away)) ∙ sym c.is_home.ensures ∙ c.if-is_home.false) in
    sym (append-nil items) ∙ ap (λ (away : Bool). items ++ (if away then [] else mine ∷ [])) (sym away)

pub returns-else-is_home-clause-room : goal.returns-else-is_home-clause-room
returns-else-is_home-clause-room c = refl
