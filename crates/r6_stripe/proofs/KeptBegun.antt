-- What a row keeps as a hold begins.
use Rattle.std.proofs.Common.{◌≡◌, inl, ℕ, ◌-◌, true, false, List, length, refl, sym, ◌∙◌, subst, arith}
use Rattle.std.proofs.lemmas.List.{length-set}
use Rattle.std.proofs.lemmas.List.Elements.{All-take}
use Rattle.r6_kernels.specs.Blocks.{IsBlock}
use Rattle.r6_recover.specs.Rows.{IsFull, block_at, data_of, row_of, written}
use Rattle.r6_stripe.specs.Holds.{Standing, Writing, Cell, Kind, cell_at, targeted, after_kind, MayBegin}
use Rattle.r6_stripe.specs.Holds.Standing.{InSync, Target, Out}
use Rattle.r6_stripe.specs.Holds.Reading.{Unread}
use Rattle.r6_stripe.specs.Holds.Kind.{Idle, Read, Write, Rebuild, Check, Repair}
use Rattle.r6_stripe.specs.RowWorld.{World, device_at, happens}
use Rattle.r6_stripe.specs.RowWorld.Step.{Begin}
use Rattle.r6_stripe.proofs.Blocks.{full-row_of, sized-written, wide_written}
use Rattle.r6_stripe.proofs.Sound.{Live, second_view, cell_set, sound_fresh, sound_target, nothing_there}
use Rattle.r6_stripe.proofs.Kept.{Here, IsMet, Basis, Kept, reading_set, sound_at, second_at_}

module _ (row : List (List ℕ)) (world : World) (kept : Kept row world) where
  -- while no hold is there no read met an error
  unmet : {A : Type 0} → world.hold.kind ≡ Idle → (i : ℕ) → IsMet (cell_at world.hold.cells i).reading → A
  unmet idle i met = absurd (subst IsMet ((kept.here i).idle idle).0.unread met)

  -- a hold begins that takes no target
  pub begin_plain : (kind : Kind) (next : List (List ℕ)) → Basis (record { size = world.hold.size; kind = kind; cells = world.hold.cells; cut_short = false; met_error = false }) row → world.hold.kind ≡ Idle → (kind ≡ Idle → ⊥) →
      after_kind (record { size = world.hold.size; kind = kind; cells = world.hold.cells; cut_short = false; met_error = false }) kind row ≡ next →
      IsFull world.hold.size next → length next ≡ length world.hold.cells →
      Kept row (record { hold = record { size = world.hold.size; kind = kind; cells = world.hold.cells; cut_short = false; met_error = false }; devices = world.devices; seconds = world.seconds })
  begin_plain kind next basis idle held is full wide = record {
    basis = basis;
    next = next;
    next_is = is;
    next_full = full;
    next_wide = wide;
    four_or_more = kept.four_or_more;
    sized = kept.sized;
    wide = kept.wide;
    equipped = kept.equipped;
    equipped_twice = kept.equipped_twice;
    met = unmet idle;
    here = λ i. record {
      sound = sound_fresh (block_at row i) (block_at kept.next i) (block_at next i) (cell_at world.hold.cells i) (device_at world.devices i) (sound_at row world kept i) ((kept.here i).idle idle).0;
      sound_second = sound_fresh (block_at row i) (block_at kept.next i) (block_at next i) (second_view (cell_at world.hold.cells i)) (device_at world.seconds i) (second_at_ row world kept i) ((kept.here i).idle idle).1;
      idle = λ e. absurd (held e);
      paired = (kept.here i).paired;
      beside = (kept.here i).beside;
    };
  }

  pub begin_kept : (kind : Kind) → IsFull world.hold.size row → world.hold.kind ≡ Idle → MayBegin world.hold kind → Kept row (happens world (Begin kind))
  begin_kept Idle full idle may = absurd may
  begin_kept (Read index) full idle may = begin_plain (Read index) row (inl full) idle (λ e. cc) refl full kept.wide
  begin_kept (Write batch) full idle may =
      begin_plain (Write batch) (row_of world.hold.size (written batch (data_of row))) (inl full) idle (λ e. cc) refl
      (full-row_of world.hold.size (written batch (data_of row)) (sized-written (length world.hold.cells - 2) world.hold.size batch (data_of row) may.1 (All-take (IsBlock world.hold.size) (length row - 2) row full.sized)))
      (wide_written world.hold.size batch row (omega (arith, kept.four_or_more)) ∙ kept.wide)
  begin_kept (Rebuild target) full idle may =
      let was = cell_at world.hold.cells target in
      let new_target : Cell = targeted was.standing was in
      record {
        basis = inl full;
        next = row;
        next_is = refl;
        next_full = full;
        next_wide = kept.wide ∙ sym (length-set world.hold.cells target new_target);
        four_or_more = kept.four_or_more;
        sized = kept.sized;
        wide = kept.wide ∙ sym (length-set world.hold.cells target new_target);
        equipped = kept.equipped ∙ sym (length-set world.hold.cells target new_target);
        equipped_twice = kept.equipped_twice ∙ sym (length-set world.hold.cells target new_target);
        met = reading_set (λ r. IsMet r → false ≡ true) world.hold.cells target new_target (unmet idle) (λ h. absurd (unmet_target was.standing h));
        here = cell_set (λ i. Here (Rebuild target) (block_at row i) (block_at row i)) world.hold.cells world.devices world.seconds target new_target kept.equipped kept.equipped_twice
            same_here
            (target_here target may.1 was.standing refl);
      }
    where
      unmet_target : (s : Standing) → IsMet (targeted s (cell_at world.hold.cells target)).reading → ⊥
      unmet_target InSync h = unmet idle target h
      unmet_target Target h = unmet idle target h
      unmet_target Out h = h

      same_here : (i : ℕ) → Here (Rebuild target) (block_at row i) (block_at row i) (cell_at world.hold.cells i) (device_at world.devices i) (device_at world.seconds i)
      same_here i = record {
        sound = sound_fresh (block_at row i) (block_at kept.next i) (block_at row i) (cell_at world.hold.cells i) (device_at world.devices i) (sound_at row world kept i) ((kept.here i).idle idle).0;
        sound_second = sound_fresh (block_at row i) (block_at kept.next i) (block_at row i) (second_view (cell_at world.hold.cells i)) (device_at world.seconds i) (second_at_ row world kept i) ((kept.here i).idle idle).1;
        idle = λ e. absurd (cc);
        paired = (kept.here i).paired;
        beside = (kept.here i).beside;
      }

      target_here : (i : ℕ) → (cell_at world.hold.cells i).second ≡ Out → (s : Standing) → (cell_at world.hold.cells i).standing ≡ s
          → Here (Rebuild target) (block_at row i) (block_at row i) (targeted s (cell_at world.hold.cells i)) (device_at world.devices i) (device_at world.seconds i)
      target_here i no_second InSync is =
          let here = same_here i in
          let t = sound_target (block_at row i) (block_at row i) (device_at world.seconds i) ((kept.here i).idle idle).1.no_command in
          let unwritten = ((kept.here i).idle idle).1.unwritten in
          record {
            sound = record { known = here.sound.known; abandoned = here.sound.abandoned; live = here.sound.live };
            sound_second = record {
              known = t.known;
              abandoned = t.abandoned;
              live = λ there. subst (λ (w : Writing). Live (block_at row i) (block_at row i) Target Unread w (device_at world.seconds i).command (device_at world.seconds i).block) (sym unwritten) (t.live there);
            };
            idle = λ e. absurd (cc);
            paired = λ in_sync w. absurd (cc);
            beside = λ other. absurd (other is);
          }
      target_here i no_second Target is = same_here i
      target_here i no_second Out is = record {
        sound = sound_target (block_at row i) (block_at row i) (device_at world.devices i) ((kept.here i).idle idle).0.no_command;
        sound_second = nothing_there (block_at row i) (block_at row i) _ (device_at world.seconds i) refl refl ((kept.here i).idle idle).1.no_command;
        idle = λ e. absurd (cc);
        paired = λ in_sync w. absurd (cc);
        beside = λ other. refl;
      }
  begin_kept Check full idle may = begin_plain Check row (inl full) idle (λ e. cc) refl full kept.wide
  begin_kept Repair full idle may = begin_plain Repair row (inl full) idle (λ e. cc) full.parities full kept.wide
