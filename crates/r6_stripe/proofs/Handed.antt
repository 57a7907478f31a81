-- Another device has the place of a position's: the hold without second devices stays sound.
use Rattle.std.proofs.Common.{◌≡◌, ◌≢◌, ◌⊎◌, inl, inr, Bool, true, false, ℕ, ◌<◌, List, [], length, get_or, set, refl, sym, ◌∙◌, subst, arith, Option, Some, None}
use Rattle.std.specs.Global.{Vec}
use Rattle.std.proofs.lemmas.Bool.{false_from_ne_true}
use Rattle.std.proofs.lemmas.List.{length-set}
use Rattle.r6_stripe.specs.Holds.{is_known}
use Rattle.r6_stripe.specs.Places.{has_met, is_lent, no_place, reading_of}
use Rattle.r6_stripe.specs.Seconds.{anew}
use Rattle.r6_stripe.specs.Sound.{AreHome, Each, IsInCourse, IsPlaceOver, IsPlaceSound, IsSound, IsTargetOf, IsTask, MayLend}
use Rattle.r6_stripe.specs.declared.command.RowTask.{RowTask}
use Rattle.r6_stripe.specs.declared.command.RowTask.TheVariants as task
use Rattle.r6_stripe.specs.declared.place.PositionState.{PositionState}
use Rattle.r6_stripe.specs.declared.place.ReadState.{ReadState}
use Rattle.r6_stripe.specs.declared.place.WriteState.{WriteState}
use Rattle.r6_stripe.specs.declared.place.Standing.TheVariants as state
use Rattle.r6_stripe.specs.declared.place.ReadState.TheVariants as read
use Rattle.r6_stripe.specs.declared.place.WriteState.TheVariants as write
use Rattle.r6_stripe.specs.declared.plan.Plan.{Plan}
use Rattle.r6_stripe.specs.declared.plan.Plan.TheVariants as plan
use Rattle.r6_stripe.specs.declared.state.HoldState.{HoldState}
use Rattle.r6_stripe.proofs.Checks.{renewed_set}
use Rattle.r6_stripe.proofs.Events.{restored_place}
use Rattle.r6_stripe.proofs.Lends.{lends_last_set}
use Rattle.r6_stripe.proofs.Places.{any_default}
use Rattle.r6_stripe.proofs.Rests.{rests_set}
use Rattle.r6_stripe.proofs.States.{Each-set, lends_not, none_lent_before, there}

-- ---- a read that is put out anew

record IsAnew (old new : ReadState) : Type 0 where
  unread : old ≡ read.Unread → new ≡ read.Unread
  tried : old ≢ read.Unread → new ≢ read.Unread
  replaced : old ≢ read.Replaced → new ≢ read.Replaced
  gone : old ≡ read.Replaced → new ≡ read.Replaced
  kept : old ≡ read.Known → new ≡ read.Known
  unknown : old ≢ read.Known → new ≢ read.Known
  unmet : has_met old ≡ false → has_met new ≡ false
  asked : has_met old ≡ false → old ≢ read.Asked → new ≢ read.Asked
  came : new ≡ read.Replaced → old ≡ read.Replaced
  knows : is_known (reading_of old []) ≡ true → is_known (reading_of new []) ≡ true

is_anew : (r : ReadState) → IsAnew r (anew r)
is_anew read.Unread = record { unread = λ e. refl; tried = λ h e. h refl; replaced = λ h e. cc; gone = λ e. absurd cc; kept = λ e. absurd cc; unknown = λ h e. cc; unmet = λ e. refl; asked = λ m h e. cc; came = λ e. absurd cc; knows = λ e. e }
is_anew read.Asked = record { unread = λ e. absurd cc; tried = λ h e. cc; replaced = λ h e. cc; gone = λ e. absurd cc; kept = λ e. absurd cc; unknown = λ h e. cc; unmet = λ e. refl; asked = λ m h e. h refl; came = λ e. absurd cc; knows = λ e. e }
is_anew read.Unreadable = record { unread = λ e. absurd cc; tried = λ h e. cc; replaced = λ h e. cc; gone = λ e. absurd cc; kept = λ e. absurd cc; unknown = λ h e. cc; unmet = λ e. absurd cc; asked = λ m h e. absurd cc; came = λ e. absurd cc; knows = λ e. e }
is_anew read.Fixing = record { unread = λ e. absurd cc; tried = λ h e. cc; replaced = λ h e. cc; gone = λ e. absurd cc; kept = λ e. absurd cc; unknown = λ h e. cc; unmet = λ e. absurd cc; asked = λ m h e. cc; came = λ e. absurd cc; knows = λ e. e }
is_anew read.Fixed = record { unread = λ e. absurd cc; tried = λ h e. cc; replaced = λ h e. cc; gone = λ e. absurd cc; kept = λ e. absurd cc; unknown = λ h e. cc; unmet = λ e. e; asked = λ m h e. cc; came = λ e. absurd cc; knows = λ e. e }
is_anew read.AskedAgain = record { unread = λ e. absurd cc; tried = λ h e. cc; replaced = λ h e. cc; gone = λ e. absurd cc; kept = λ e. absurd cc; unknown = λ h e. cc; unmet = λ e. absurd cc; asked = λ m h e. cc; came = λ e. absurd cc; knows = λ e. e }
is_anew read.Known = record { unread = λ e. absurd cc; tried = λ h e. cc; replaced = λ h e. cc; gone = λ e. absurd cc; kept = λ e. refl; unknown = λ h e. h refl; unmet = λ e. refl; asked = λ m h e. cc; came = λ e. absurd cc; knows = λ e. e }
is_anew read.Replaced = record { unread = λ e. absurd cc; tried = λ h e. cc; replaced = λ h e. h refl; gone = λ e. refl; kept = λ e. absurd cc; unknown = λ h e. cc; unmet = λ e. refl; asked = λ m h e. cc; came = λ e. refl; knows = λ e. e }

-- ---- the place in the course of its plan

module _ (old : PositionState) (w : WriteState) (away : Bool) (in_sync : old.state ≡ state.InSync) (stays : old.write ≡ write.Unwritten → w ≡ write.Unwritten) (goes : old.write ≢ write.Unwritten → w ≢ write.Unwritten) where
  abbrev new : PositionState
  new = record { state = old.state; read = anew old.read; write = w; away = away }

  r : IsAnew old.read (anew old.read)
  r = is_anew old.read

  renewed : (old.write ≢ write.Unwritten) ⊎ (old.state ≡ state.Out) → (w ≢ write.Unwritten) ⊎ (old.state ≡ state.Out)
  renewed (inl h) = inl (goes h)
  renewed (inr h) = inr h

  tried : (old.state ≡ state.Out) ⊎ (old.read ≢ read.Unread) → (old.state ≡ state.Out) ⊎ (anew old.read ≢ read.Unread)
  tried (inl h) = inl h
  tried (inr h) = inr (r.tried h)

  pub anew_course : (p : Plan) (t : Option RowTask) (count : ℕ) (computed : Bool) (i : ℕ) → IsInCourse p t count computed i old → IsInCourse p t count computed i new
  anew_course plan.One None count computed i course = course
  anew_course plan.Reconstruct None count computed i course = course
  anew_course plan.Modify None count computed i course = course
  anew_course plan.Overwrite None count computed i course = course
  anew_course plan.Recover None count computed i course = course
  anew_course plan.All None count computed i course = course
  anew_course plan.One (Some (task.Read index)) count computed i course = (stays course.0, r.replaced course.1, (λ other. r.unread (course.2 other)), r.unmet course.3)
  anew_course plan.Reconstruct (Some (task.Write batch)) count false i course = (stays course.0, r.replaced course.1, (λ put. r.asked course.3 (course.2 put)), r.unmet course.3)
  anew_course plan.Modify (Some (task.Write batch)) count false i course = (stays course.0, r.replaced course.1)
  anew_course plan.Overwrite (Some (task.Write batch)) count false i course = (stays course.0, r.unread course.1, course.2)
  anew_course plan.Reconstruct (Some (task.Write batch)) count true i course = λ put. renewed (course put)
  anew_course plan.Modify (Some (task.Write batch)) count true i course = λ put. renewed (course put)
  anew_course plan.Overwrite (Some (task.Write batch)) count true i course = λ put. renewed (course put)
  anew_course plan.Recover (Some (task.Read index)) count computed i course = (stays course.0, r.replaced course.1, λ same. tried (course.2 same))
  anew_course plan.Recover (Some (task.Write batch)) count false i course = (stays course.0, r.replaced course.1)
  anew_course plan.Recover (Some (task.Write batch)) count true i course = λ put. renewed (course put)
  anew_course plan.Recover (Some (task.Rebuild target)) count computed i course = ((λ other. (stays (course.0 other).0, r.replaced (course.0 other).1)), λ same. absurd ((course.1 same).1 in_sync))
  anew_course plan.All (Some task.Check) count computed i course = (stays course.0, r.replaced course.1)
  anew_course plan.All (Some task.Repair) count false i course = (stays course.0, r.replaced course.1)
  anew_course plan.All (Some task.Repair) count true i (inl h) = inl (r.kept h.0, stays h.1)
  anew_course plan.All (Some task.Repair) count true i (inr h) = inr (h.0, r.gone h.1, goes h.2)
  anew_course plan.One (Some (task.Write batch)) count computed i course = absurd course
  anew_course plan.One (Some (task.Rebuild target)) count computed i course = absurd course
  anew_course plan.One (Some task.Check) count computed i course = absurd course
  anew_course plan.One (Some task.Repair) count computed i course = absurd course
  anew_course plan.Reconstruct (Some (task.Read index)) count computed i course = absurd course
  anew_course plan.Reconstruct (Some (task.Rebuild target)) count computed i course = absurd course
  anew_course plan.Reconstruct (Some task.Check) count computed i course = absurd course
  anew_course plan.Reconstruct (Some task.Repair) count computed i course = absurd course
  anew_course plan.Modify (Some (task.Read index)) count computed i course = absurd course
  anew_course plan.Modify (Some (task.Rebuild target)) count computed i course = absurd course
  anew_course plan.Modify (Some task.Check) count computed i course = absurd course
  anew_course plan.Modify (Some task.Repair) count computed i course = absurd course
  anew_course plan.Overwrite (Some (task.Read index)) count computed i course = absurd course
  anew_course plan.Overwrite (Some (task.Rebuild target)) count computed i course = absurd course
  anew_course plan.Overwrite (Some task.Check) count computed i course = absurd course
  anew_course plan.Overwrite (Some task.Repair) count computed i course = absurd course
  anew_course plan.Recover (Some task.Check) count computed i course = absurd course
  anew_course plan.Recover (Some task.Repair) count computed i course = absurd course
  anew_course plan.All (Some (task.Read index)) count computed i course = absurd course
  anew_course plan.All (Some (task.Write batch)) count computed i course = absurd course
  anew_course plan.All (Some (task.Rebuild target)) count computed i course = absurd course

  pub anew_settled : (away ≡ true → w ≡ write.Sent) → (w ≢ write.Unwritten → old.read ≢ read.Known) → IsPlaceSound old → IsPlaceSound new
  anew_settled left one settled = record {
    away = λ e. inr (inl (left e));
    one_block = λ e. r.unknown (one e);
    replaced = λ e. goes (settled.replaced (r.came e));
  }

  pub anew_over : IsPlaceOver old → IsPlaceOver new
  anew_over over live = (r.asked (over live).1 (over live).0, r.unmet (over live).1)

  pub anew_knows : is_known (reading_of old.read []) ≡ true → is_known (reading_of (anew old.read) []) ≡ true
  anew_knows = r.knows

-- a position in sync is lent no buffer
pub in_sync_unlent : (old : PositionState) → old.state ≡ state.InSync → IsPlaceSound old → is_lent old ≡ false
in_sync_unlent old in_sync settled = false_from_ne_true (is_lent old) (λ lent. let restored = restored_place old settled lent in let e = sym in_sync ∙ restored.0 in cc)

-- the hold
module _ (s : HoldState) (i : ℕ) (w : WriteState) (away : Bool) (sound : IsSound s) (inside : i < length s.places) (in_sync : (get_or s.places i no_place).state ≡ state.InSync)
    (stays : (get_or s.places i no_place).write ≡ write.Unwritten → w ≡ write.Unwritten) (back : w ≡ write.Unwritten → (get_or s.places i no_place).write ≡ write.Unwritten)
    (left : away ≡ true → w ≡ write.Sent) (one : w ≢ write.Unwritten → (get_or s.places i no_place).read ≢ read.Known) where
  abbrev was : PositionState
  was = get_or s.places i no_place

  abbrev pub handed_place : PositionState
  handed_place = record { state = (get_or s.places i no_place).state; read = anew (get_or s.places i no_place).read; write = w; away = away }

  here : was ≡ get_or s.places i was
  here = any_default s.places i no_place was inside

  goes : was.write ≢ write.Unwritten → w ≢ write.Unwritten
  goes h e = h (back e)

  settled : IsPlaceSound was
  settled = there (λ k place. IsPlaceSound place) s.places i was inside here sound.settled

  pub handed_sound : (blocks : Vec (List ℕ)) → length blocks.items ≡ length s.blocks.items → AreHome s.len (set s.places i handed_place) blocks.items → is_lent handed_place ≡ false →
      IsSound (record s { prepared = false; places = set s.places i handed_place; blocks = blocks })
  handed_sound blocks wide home unlent =
      let count = length-set s.places i handed_place in
      let P : ℕ → PositionState → Type 0 = IsInCourse s.plan s.task (length s.places) sound.computed in
      record {
        four_or_more = omega (arith, sound.four_or_more, count);
        at_most = omega (arith, sound.at_most, count);
        wide = wide ∙ sound.wide ∙ sym count;
        sum = λ none. sound.sum (none_lent_before s.places i was handed_place here (λ e. in_sync_unlent was in_sync settled) none);
        weighted = sound.weighted;
        fits = subst (λ (n : ℕ). IsTask n s.len s.task) (sym count) sound.fits;
        at_home = home;
        settled = Each-set (λ k place. IsPlaceSound place) s.places i handed_place sound.settled (anew_settled was w away in_sync stays goes left one settled);
        cut = sound.cut;
        targets = Each-set (IsTargetOf s.task) s.places i handed_place sound.targets (there (IsTargetOf s.task) s.places i was inside here sound.targets);
        lends = Each-set (λ k place. is_lent place ≡ true → MayLend s.task k) s.places i handed_place sound.lends (lends_not s.task i handed_place unlent);
        lends_last = lends_last_set s.places i was handed_place inside here (anew_knows was w away in_sync stays goes) (anew_over was w away in_sync stays goes) (λ lent. absurd (let e = sym unlent ∙ lent in cc)) sound.lends_last;
        rests = rests_set s.places i was handed_place inside here (λ h e. h (stays e)) (anew_over was w away in_sync stays goes) sound.rests;
        computed = sound.computed;
        renewed = λ repairs computed. renewed_set s.class s.places i was handed_place here goes inside (sound.renewed repairs computed);
        course = subst (λ (n : ℕ). Each (IsInCourse s.plan s.task n sound.computed) (set s.places i handed_place)) (sym count)
            (Each-set P s.places i handed_place sound.course (anew_course was w away in_sync stays goes s.plan s.task (length s.places) sound.computed i (there P s.places i was inside here sound.course)));
      }

pub unknown_anew : (r : ReadState) → r ≢ read.Known → anew r ≢ read.Known
unknown_anew r = (is_anew r).unknown

-- no new block was computed while a read is asked for
pub none_asked : (s : HoldState) → IsSound s → (i : ℕ) → i < length s.places → (get_or s.places i no_place).state ≡ state.InSync → (get_or s.places i no_place).read ≡ read.Asked → (j : ℕ) → j < length s.places
    → (get_or s.places j no_place).write ≡ write.Unwritten
none_asked s sound i inside in_sync asked j below = by_write (get_or s.places j no_place).write refl
  where
    never : (get_or s.places j no_place).write ≢ write.Unwritten → ⊥
    never written = (sound.rests j below written i inside (λ out. let e = sym in_sync ∙ out in cc)).0 asked

    by_write : (w : WriteState) → (get_or s.places j no_place).write ≡ w → w ≡ write.Unwritten
    by_write write.Unwritten is = refl
    by_write write.Ready is = absurd (never (λ e. let f = sym is ∙ e in cc))
    by_write write.Sent is = absurd (never (λ e. let f = sym is ∙ e in cc))
    by_write write.Confirmed is = absurd (never (λ e. let f = sym is ∙ e in cc))
