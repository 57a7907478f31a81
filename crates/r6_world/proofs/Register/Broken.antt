-- A device answers a command by an error, and its part is broken.
use Rattle.std.proofs.Common.{◌≡◌, ℕ, ◌≤◌, [], ◌∷◌, ◌++◌, Bool, true, false, inl, inr, sym, ◌∙◌, subst, Some, None}
use Rattle.std.proofs.lemmas.Bool.{cases_eq, cases_Bool, false≢true}
use Rattle.r6_world.specs.Changes.{Come_home, Lose, after, without}
use Rattle.r6_world.specs.Layouts.{Layout}
use Rattle.r6_world.specs.Registers.{Snapshot}
use Rattle.r6_world.specs.ShardStates.{Shard, SlotState, IsLive, LossOf, Command}
use Rattle.r6_world.specs.Tables.{put, put_in}
use Rattle.r6_world.specs.Tasks.{Rebuild}
use Rattle.r6_world.proofs.Tables.{put-same, put-other}
use Rattle.r6_world.proofs.Register.Ties.{Awaits}
use Rattle.r6_world.proofs.Uses.{Uses}
use Rattle.r6_world.proofs.Rows.Becoming.{without-ordered}
use Rattle.r6_world.proofs.Register.WaitingCalls.{awaits-more, awaits-last}
use Rattle.r6_world.proofs.Register.PutAway.{Live, Parting, live-was, away-without, without-was, without-left, without-gone, put_in-cases, still-whole, comes-home, hears-parted, commands-abandoned, commands-home, tasks-told}

-- where less is broken
pub fewer-broken : (l : Layout) (n : ℕ) (r : Snapshot) (broken broken' : ℕ → ℕ → Bool) (s : Shard) → ((d g : ℕ) → broken d g ≡ true → broken' d g ≡ true)
    → Parting l n r broken' s → Parting l n r broken s
fewer-broken l n r broken broken' s more y =
    let x = y.parted in
    let whole : (d g : ℕ) → broken' d g ≡ false → broken d g ≡ false = (λ d g e. elim (cases_Bool (broken d g)) [
      | inl yes' ↦ absurd (false≢true (sym e ∙ more d g yes'))
      | inr no' ↦ no'
    ]) in
    record {
      parted = record {
        used = x.used;
        ordered = x.ordered;
        commanded = x.commanded;
        rebuilding = x.rebuilding;
        broke = λ d g b. x.broke d g (more d g b);
        stays_away = λ lv d g b u. x.stays_away lv d g (more d g b) u;
        known = λ lv ok d g by e. elim (x.known lv ok d g by e) [
          | inl u ↦ inl u
          | inr o ↦ elim o [ inl w ↦ inr (inl w) | inr q ↦ inr (inr (q.0, whole d g q.1)) ]
        ];
      };
    }

-- an error: the part that answered it is broken
module _ (l : Layout) (n : ℕ) (r : Snapshot) (broken : ℕ → ℕ → Bool) where
  pub loses-parted : (s : Shard) → Parting l n r broken s → (t : ℕ) (c : Command) → s.command t ≡ Some c → (IsLive l s → Uses (s.slot c.slot) c.generation)
      → Parting l n r (put_in broken c.slot c.generation true) (after l s (Lose t c))
  loses-parted s y t c here in-use =
      let x = y.parted in
      let now : SlotState = without (s.slot c.slot) c.generation in
      let slots' : ℕ → SlotState = put s.slot c.slot now in
      let live : Live l slots' s.saw_failed → Live l s.slot s.saw_failed = live-was l s.slot s.saw_failed c.slot now (away-without (s.slot c.slot) c.generation) in
      let home = comes-home l n r broken s.slot s.saw_failed s.frame s.command s.calls x t in
      let z = hears-parted l n r broken s.slot s.saw_failed s.frame (put s.command t None) s.calls (s.calls ++ LossOf c.slot c.generation ∷ []) home c.slot now _ (away-without (s.slot c.slot) c.generation) (without-ordered (s.slot c.slot) c.generation) (without-was (s.slot c.slot) c.generation)
      (λ d g w. awaits-more _ s.calls _ w)
      (λ lv g u. elim (without-left (s.slot c.slot) c.generation g (in-use lv) u) [
        | inl u' ↦ inl u'
        | inr same ↦ inr (subst (λ q. Awaits (LossOf c.slot q) (s.calls ++ LossOf c.slot c.generation ∷ [])) (sym same) (awaits-last (LossOf c.slot c.generation) s.calls))
      ]) in
      record {
        parted = record {
          used = z.used;
          ordered = z.ordered;
          commanded = z.commanded;
          rebuilding = z.rebuilding;
          broke = λ d g b. elim (put_in-cases broken c.slot c.generation d g b) [
            | inl p ↦ subst (λ q. q ≤ r.attaches) (sym p.1) (x.commanded t c here)
            | inr old ↦ x.broke d g old
          ];
          stays_away = λ lv d g b u. elim (put_in-cases broken c.slot c.generation d g b) [
            | inl p ↦
                let u' : Uses now g = subst (λ q. Uses q g) (put-same s.slot c.slot now d p.0) u in
                without-gone (s.slot c.slot) c.generation (x.ordered c.slot) (subst (Uses now) p.1 u')
            | inr old ↦ z.stays_away lv d g old u
          ];
          known = λ lv ok d g by e. elim (x.known (live lv) ok d g by e) [
            | inl u ↦ elim (cases_eq d c.slot) [
              | inr ne ↦ inl (subst (λ q. Uses q g) (sym (put-other s.slot c.slot now d ne)) u)
              | inl same ↦ elim (without-left (s.slot c.slot) c.generation g (in-use (live lv)) (subst (λ q. Uses (s.slot q) g) same u)) [
                | inl u' ↦ inl (subst (λ q. Uses q g) (sym (put-same s.slot c.slot now d same)) u')
                | inr gen ↦ inr (inl (subst (λ q. Awaits (LossOf q g) (s.calls ++ LossOf c.slot c.generation ∷ [])) (sym same)
                    (subst (λ q. Awaits (LossOf c.slot q) (s.calls ++ LossOf c.slot c.generation ∷ [])) (sym gen) (awaits-last (LossOf c.slot c.generation) s.calls))))
              ]
            ]
            | inr o ↦ elim o [
              | inl w ↦ inr (inl (awaits-more _ s.calls _ w))
              | inr q ↦ inr (inr (
                (
                  commands-abandoned (λ d' g'. d' ≡ d → g' ≡ g → ⊥) (put s.command t None) _ c.slot now (commands-home (λ d' g'. d' ≡ d → g' ≡ g → ⊥) s.command t q.0.0),
                  tasks-told l c.slot (s.slot c.slot) now (λ y. y ≡ Rebuild d g → ⊥) s.frame q.0.1,
                ),
                still-whole broken c.slot c.generation d g (λ e' e''. q.0.0 t c here (sym e') (sym e'')) q.1,
              ))
            ]
          ];
        };
      }

  pub late-parted : (s : Shard) → Parting l n r broken s → (t : ℕ) (c : Command) → s.command t ≡ Some c → (IsLive l s → Uses (s.slot c.slot) c.generation → ⊥)
      → Parting l n r (put_in broken c.slot c.generation true) (after l s (Come_home t c))
  late-parted s y t c here away =
      let x = y.parted in
      record {
        parted = record {
          used = x.used;
          ordered = x.ordered;
          commanded = commands-home (λ d g. g ≤ r.attaches) s.command t x.commanded;
          rebuilding = x.rebuilding;
          broke = λ d g b. elim (put_in-cases broken c.slot c.generation d g b) [
            | inl p ↦ subst (λ z. z ≤ r.attaches) (sym p.1) (x.commanded t c here)
            | inr old ↦ x.broke d g old
          ];
          stays_away = λ lv d g b u. elim (put_in-cases broken c.slot c.generation d g b) [
            | inl p ↦ away lv (subst (λ z. Uses (s.slot z) c.generation) p.0 (subst (λ z. Uses (s.slot d) z) p.1 u))
            | inr old ↦ x.stays_away lv d g old u
          ];
          known = λ lv ok d g by e. elim (x.known lv ok d g by e) [
            | inl u ↦ inl u
            | inr o ↦ elim o [
              | inl w ↦ inr (inl w)
              | inr q ↦ inr (inr (
                (commands-home (λ d' g'. d' ≡ d → g' ≡ g → ⊥) s.command t q.0.0, q.0.1),
                still-whole broken c.slot c.generation d g (λ e' e''. q.0.0 t c here (sym e') (sym e'')) q.1,
              ))
            ]
          ];
        };
      }
