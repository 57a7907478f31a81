use Rattle.std.proofs.Common.{◌<◌, ◌∙◌, MatchOption, length, ap, subst, sym}
use Rattle.r6_waiters.specs.Line.{causes_of, entries_of, older_of}
use Rattle.r6_waiters.specs.Positions.{HasNone, IsLowest}
use Rattle.r6_waiters.specs.Sets.{cause_at}
use Rattle.r6_waiters.proofs.Older.{older-first, older-first_alone, older-neither, older-second, older-second_alone}
use Rattle.r6_waiters.proofs.Stepped.{oldest-in, none-in}
use Rattle.r6_waiters.proofs.waiters.Waiters.older.Goals as goal

pub returns-in-Some-Some : goal.returns-in-Some-Some
returns-in-Some-Some g c =
    let sets = c.self.inside.sets.items in
    let places = c.self.inside.places.items in
    let first : c.args.first < length sets = subst (λ v. c.args.first < causes_of v) (sym c.self.view_is) c.requires.first in
    let second : c.args.second < length sets = subst (λ v. c.args.second < causes_of v) (sym c.self.view_is) c.requires.second in
    let one = oldest-in sets places c.args.first c.in-Some-Some.one c.index.result.now c.self.invariant.marked first c.index.ensures c.in-Some-Some.ensures in
    let two = oldest-in sets places c.args.second c.in-Some-Some.other c.index-2.result.now c.self.invariant.marked second c.index-2.ensures c.in-Some-Some.ensures' in
    older-second (cause_at sets) places c.args.first c.args.second c.in-Some-Some.one c.in-Some-Some.other one two c.if-other-one.true
    ∙ ap (λ v. older_of c.args.first c.args.second (entries_of v)) c.self.view_is

pub returns-in-Some-default : goal.returns-in-Some-default
returns-in-Some-default g c =
    let sets = c.self.inside.sets.items in
    let places = c.self.inside.places.items in
    let first : c.args.first < length sets = subst (λ v. c.args.first < causes_of v) (sym c.self.view_is) c.requires.first in
    let second : c.args.second < length sets = subst (λ v. c.args.second < causes_of v) (sym c.self.view_is) c.requires.second in
    let one = oldest-in sets places c.args.first c.in-Some-Some.one c.index.result.now c.self.invariant.marked first c.index.ensures c.in-Some-Some.ensures in
    let two = oldest-in sets places c.args.second c.in-Some-Some.other c.index-2.result.now c.self.invariant.marked second c.index-2.ensures c.in-Some-Some.ensures' in
    older-first (cause_at sets) places c.args.first c.args.second c.in-Some-Some.one c.in-Some-Some.other one two c.if-other-one.false
    ∙ ap (λ v. older_of c.args.first c.args.second (entries_of v)) c.self.view_is

pub returns-in-Some-default-2 : goal.returns-in-Some-default-2
returns-in-Some-default-2 g c =
    let sets = c.self.inside.sets.items in
    let places = c.self.inside.places.items in
    let first : c.args.first < length sets = subst (λ v. c.args.first < causes_of v) (sym c.self.view_is) c.requires.first in
    let second : c.args.second < length sets = subst (λ v. c.args.second < causes_of v) (sym c.self.view_is) c.requires.second in
    let one = oldest-in sets places c.args.first c.in-Some-default.field-0-0 c.index.result.now c.self.invariant.marked first c.index.ensures c.in-Some-default.ensures in
    let two = none-in sets places c.args.second c.index-2.result.now c.self.invariant.marked second c.index-2.ensures c.in-Some-default.ensures' in
    older-first_alone (cause_at sets) places c.args.first c.args.second c.in-Some-default.field-0-0 one two
    ∙ ap (λ v. older_of c.args.first c.args.second (entries_of v)) c.self.view_is

pub returns-in-None-Some : goal.returns-in-None-Some
returns-in-None-Some g c =
    let sets = c.self.inside.sets.items in
    let places = c.self.inside.places.items in
    let first : c.args.first < length sets = subst (λ v. c.args.first < causes_of v) (sym c.self.view_is) c.requires.first in
    let second : c.args.second < length sets = subst (λ v. c.args.second < causes_of v) (sym c.self.view_is) c.requires.second in
    let one = none-in sets places c.args.first c.index.result.now c.self.invariant.marked first c.index.ensures (subst (λ o. MatchOption o (HasNone c.index.result.now) (IsLowest c.index.result.now)) c.in-None-Some.is-0 c.lowest.ensures) in
    let two = oldest-in sets places c.args.second c.in-None-Some.field-0-1 c.index-2.result.now c.self.invariant.marked second c.index-2.ensures c.in-None-Some.ensures in
    older-second_alone (cause_at sets) places c.args.first c.args.second c.in-None-Some.field-0-1 one two
    ∙ ap (λ v. older_of c.args.first c.args.second (entries_of v)) c.self.view_is

pub returns-in-None-None : goal.returns-in-None-None
returns-in-None-None g c =
    let sets = c.self.inside.sets.items in
    let places = c.self.inside.places.items in
    let first : c.args.first < length sets = subst (λ v. c.args.first < causes_of v) (sym c.self.view_is) c.requires.first in
    let second : c.args.second < length sets = subst (λ v. c.args.second < causes_of v) (sym c.self.view_is) c.requires.second in
    let one = none-in sets places c.args.first c.index.result.now c.self.invariant.marked first c.index.ensures (subst (λ o. MatchOption o (HasNone c.index.result.now) (IsLowest c.index.result.now)) c.in-None-None.is-0 c.lowest.ensures) in
    let two = none-in sets places c.args.second c.index-2.result.now c.self.invariant.marked second c.index-2.ensures c.in-None-None.ensures in
    older-neither (cause_at sets) places c.args.first c.args.second one two
    ∙ ap (λ v. older_of c.args.first c.args.second (entries_of v)) c.self.view_is
