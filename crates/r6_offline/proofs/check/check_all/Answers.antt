use Rattle.std.proofs.Common.{◌≡◌, ◌*◌, ◌<◌, ◌^◌, length, map, drop, sym, ap, subst, ◌∙◌, zero-add}
use Rattle.std.proofs.lemmas.List.Elements.{All-same}
use Rattle.std.proofs.lemmas.Slice.Zip.{AllZip-long}
use Rattle.std.specs.List.{All, AllZip, flat_map}
use Rattle.r6_offline.specs.Errors.{IsRefusal, of_refusal}
use Rattle.r6_offline.specs.Lent.{AreLeft, IsSound, KeepPromises, promises_of}
use Rattle.r6_offline.specs.Parts.{parts_of}
use Rattle.r6_offline.specs.PartReports.{joined_all}
use Rattle.r6_offline.specs.Reports.{IsReport, no_report, total}
use Rattle.r6_offline.specs.ShardChecks.{Begins, HasChecked, HasOtherParts, one_shard, own_parts, report_of}
use Rattle.r6_offline.proofs.CheckLaws.{written}
use Rattle.r6_offline.proofs.LentLaws.{keep_none}
use Rattle.r6_offline.proofs.PartLaws.{total_fits}
use Rattle.r6_threads.specs.declared.run.NotBegun.{NotBegun}
use Rattle.r6_threads.specs.declared.run.NotBegun.TheVariants as threads
use Rattle.r6_offline.proofs.ShardLaws.{all_begin, all_checked, all_have_places, all_keep, all_left, length_of_all, length_still, same_reports}
use Rattle.r6_offline.proofs.check.check_all.Goals as goal

refused : (reason : NotBegun) → IsRefusal (of_refusal reason)
refused threads.NoMemory = tt
refused threads.ThreadRefused = tt

pub exchange-requires : goal.exchange-requires
exchange-requires g c =
    let shape = c.args.geometry.now in
    let made = c.in_ok-checks.ensures in
    let empty = c.in_ok-checks.checks.items in
    c.requires ∙ ap (λ n. n * shape.slots) (sym made.count)
    ∙ sym (length_of_all shape.slots empty (all_have_places shape 0 empty made.each))
    ∙ ap (λ l. length (flat_map own_parts l)) (sym c.as_mut_slice.ensures.value)

pub run_or_return-requires-clause-ready : goal.run_or_return-requires-clause-ready
run_or_return-requires-clause-ready g c κs within =
    let shape = c.args.geometry.now in
    let made = c.in_ok-checks.ensures in
    let empty = c.in_ok-checks.checks.items in
    let begun = c.exchange.new.checks in
    let others = subst (λ l. AllZip HasOtherParts l begun) c.as_mut_slice.ensures.value c.exchange.ensures.others in
    let all : c.in_ok-checks.checks.len ≡ length begun = c.in_ok-checks.checks.ok.0 ∙ sym (AllZip-long HasOtherParts empty begun others) in
    let begin = all_begin shape 0 empty begun c.alone-alone.ensures.limits (zero-add (length empty) ∙ made.count) made.each others in
    All-same (Begins c.alone-alone.result) _ begun (written begun (drop (length begun) empty) c.in_ok-checks.checks.len all)
    (subst (λ it. All (Begins it) begun) (sym c.alone-alone.ensures.value) begin)

pub exchange-requires-in-Ok : goal.exchange-requires-in-Ok
exchange-requires-in-Ok g c =
    let shape = c.args.geometry.now in
    let told = g.D.BlockDevice.told in
    let empty = c.in_ok-checks.checks.items in
    let begun = c.exchange.new.checks in
    let ended = c.in-Ok.checks.items in
    let others = subst (λ l. AllZip HasOtherParts l begun) c.as_mut_slice.ensures.value c.exchange.ensures.others in
    let all : c.in_ok-checks.checks.len ≡ length begun = c.in_ok-checks.checks.ok.0 ∙ sym (AllZip-long HasOtherParts empty begun others) in
    let checked = subst (λ l. AllZip (HasChecked told g.D.BlockDevice.promised c.alone-alone.result) l ended)
    (written begun (drop (length begun) empty) c.in_ok-checks.checks.len all) c.in-Ok.ensures.done in
    c.exchange.ensures.count ∙ ap length (sym c.exchange.ensures.lent)
    ∙ sym (length_still (HasChecked told g.D.BlockDevice.promised c.alone-alone.result) (λ o n is. is.places) begun ended checked)
    ∙ ap (λ l. length (flat_map own_parts l)) (sym c.as_mut_slice-in-Ok.ensures.value)

pub exchange-requires-in-Err : goal.exchange-requires-in-Err
exchange-requires-in-Err g c =
    let empty = c.in_ok-checks.checks.items in
    let begun = c.exchange.new.checks in
    let others = subst (λ l. AllZip HasOtherParts l begun) c.as_mut_slice.ensures.value c.exchange.ensures.others in
    let all : c.in_ok-checks.checks.len ≡ length begun = c.in_ok-checks.checks.ok.0 ∙ sym (AllZip-long HasOtherParts empty begun others) in
    let back = c.in-Err.ensures.back ∙ written begun (drop (length begun) empty) c.in_ok-checks.checks.len all in
    c.exchange.ensures.count ∙ ap length (sym c.exchange.ensures.lent)
    ∙ ap (λ l. length (flat_map own_parts l)) (sym (c.as_mut_slice-in-Err.ensures.value ∙ back))

pub join_reports-requires : goal.join_reports-requires
join_reports-requires g c =
    let shape = c.args.geometry.now in
    let told = g.D.BlockDevice.told in
    let lent = c.args.parts.now in
    let made = c.in_ok-checks.ensures in
    let empty = c.in_ok-checks.checks.items in
    let begun = c.exchange.new.checks in
    let ended = c.in-Ok.checks.items in
    let last = c.exchange-in-Ok.new.checks in
    let others = subst (λ l. AllZip HasOtherParts l begun) c.as_mut_slice.ensures.value c.exchange.ensures.others in
    let all : c.in_ok-checks.checks.len ≡ length begun = c.in_ok-checks.checks.ok.0 ∙ sym (AllZip-long HasOtherParts empty begun others) in
    let checked = subst (λ it. AllZip (HasChecked told g.D.BlockDevice.promised it) begun ended) c.alone-alone.ensures.value
    (subst (λ l. AllZip (HasChecked told g.D.BlockDevice.promised c.alone-alone.result) l ended)
    (written begun (drop (length begun) empty) c.in_ok-checks.checks.len all) c.in-Ok.ensures.done) in
    let report = all_checked told g.D.BlockDevice.promised shape lent empty begun ended c.alone-alone.ensures.limits made.count made.each others c.exchange.ensures.lent checked in
    let handed = subst (λ l. AllZip HasOtherParts l last) c.as_mut_slice-in-Ok.ensures.value c.exchange-in-Ok.ensures.others in
    let all' : c.in-Ok.checks.len ≡ length last = c.in-Ok.checks.ok.0 ∙ sym (AllZip-long HasOtherParts ended last handed) in
    let same = ap (map report_of) (c.as_slice.ensures.value ∙ written last (drop (length last) ended) c.in-Ok.checks.len all') ∙ same_reports ended last handed in
    subst (λ rs. total (joined_all no_report rs).counts < 2 ^ 64) (sym same)
    (total_fits shape (parts_of told lent) (joined_all no_report (map report_of ended)) c.alone-alone.ensures.limits report)

pub returns-in-Ok-clause-report : goal.returns-in-Ok-clause-report
returns-in-Ok-clause-report g c =
    let shape = c.args.geometry.now in
    let told = g.D.BlockDevice.told in
    let lent = c.args.parts.now in
    let made = c.in_ok-checks.ensures in
    let empty = c.in_ok-checks.checks.items in
    let begun = c.exchange.new.checks in
    let ended = c.in-Ok.checks.items in
    let last = c.exchange-in-Ok.new.checks in
    let others = subst (λ l. AllZip HasOtherParts l begun) c.as_mut_slice.ensures.value c.exchange.ensures.others in
    let all : c.in_ok-checks.checks.len ≡ length begun = c.in_ok-checks.checks.ok.0 ∙ sym (AllZip-long HasOtherParts empty begun others) in
    let checked = subst (λ it. AllZip (HasChecked told g.D.BlockDevice.promised it) begun ended) c.alone-alone.ensures.value
    (subst (λ l. AllZip (HasChecked told g.D.BlockDevice.promised c.alone-alone.result) l ended)
    (written begun (drop (length begun) empty) c.in_ok-checks.checks.len all) c.in-Ok.ensures.done) in
    let report = all_checked told g.D.BlockDevice.promised shape lent empty begun ended c.alone-alone.ensures.limits made.count made.each others c.exchange.ensures.lent checked in
    let handed = subst (λ l. AllZip HasOtherParts l last) c.as_mut_slice-in-Ok.ensures.value c.exchange-in-Ok.ensures.others in
    let all' : c.in-Ok.checks.len ≡ length last = c.in-Ok.checks.ok.0 ∙ sym (AllZip-long HasOtherParts ended last handed) in
    let same = ap (map report_of) (c.as_slice.ensures.value ∙ written last (drop (length last) ended) c.in-Ok.checks.len all') ∙ same_reports ended last handed in
    subst (IsReport shape (parts_of told lent)) (sym (c.join_reports.ensures ∙ ap (joined_all no_report) same)) report

pub returns-in-Ok-clause-kept : goal.returns-in-Ok-clause-kept
returns-in-Ok-clause-kept g c =
    let told = g.D.BlockDevice.told in
    let shape = c.args.geometry.now in
    let promised = g.D.BlockDevice.promised in
    let lent = c.args.parts.now in
    let made = c.in_ok-checks.ensures in
    let empty = c.in_ok-checks.checks.items in
    let begun = c.exchange.new.checks in
    let ended = c.in-Ok.checks.items in
    let last = c.exchange-in-Ok.new.checks in
    let others = subst (λ l. AllZip HasOtherParts l begun) c.as_mut_slice.ensures.value c.exchange.ensures.others in
    let all : c.in_ok-checks.checks.len ≡ length begun = c.in_ok-checks.checks.ok.0 ∙ sym (AllZip-long HasOtherParts empty begun others) in
    let checked = subst (λ it. AllZip (HasChecked told promised it) begun ended) c.alone-alone.ensures.value
    (subst (λ l. AllZip (HasChecked told promised c.alone-alone.result) l ended)
    (written begun (drop (length begun) empty) c.in_ok-checks.checks.len all) c.in-Ok.ensures.done) in
    let handed = subst (λ l. AllZip HasOtherParts l last) c.as_mut_slice-in-Ok.ensures.value c.exchange-in-Ok.ensures.others in
    let all' : c.in-Ok.checks.len ≡ length last = c.in-Ok.checks.ok.0 ∙ sym (AllZip-long HasOtherParts ended last handed) in
    let same = ap (map report_of) (c.as_slice.ensures.value ∙ written last (drop (length last) ended) c.in-Ok.checks.len all') ∙ same_reports ended last handed in
    let given : c.exchange-in-Ok.new.parts ≡ flat_map own_parts ended =
    c.exchange-in-Ok.ensures.back ∙ ap (flat_map own_parts) c.as_mut_slice-in-Ok.ensures.value in
    let ends : c.join_reports.result.fault ≡ (joined_all no_report (map report_of ended)).fault =
    ap (λ r. r.fault) (c.join_reports.ensures ∙ ap (joined_all no_report) same) in
    let left = all_left told promised shape lent empty begun ended c.alone-alone.ensures.limits made.count made.each others c.exchange.ensures.lent checked in
    subst (λ l. AreLeft shape (promises_of promised lent) c.join_reports.result.fault (parts_of told lent) (parts_of told l)) (sym given)
    (subst (λ fault. AreLeft shape (promises_of promised lent) fault (parts_of told lent) (parts_of told (flat_map own_parts ended))) (sym ends) left.left)

pub returns-in-Ok-clause-sound : goal.returns-in-Ok-clause-sound
returns-in-Ok-clause-sound g c =
    let told = g.D.BlockDevice.told in
    let shape = c.args.geometry.now in
    let promised = g.D.BlockDevice.promised in
    let lent = c.args.parts.now in
    let made = c.in_ok-checks.ensures in
    let empty = c.in_ok-checks.checks.items in
    let begun = c.exchange.new.checks in
    let ended = c.in-Ok.checks.items in
    let last = c.exchange-in-Ok.new.checks in
    let others = subst (λ l. AllZip HasOtherParts l begun) c.as_mut_slice.ensures.value c.exchange.ensures.others in
    let all : c.in_ok-checks.checks.len ≡ length begun = c.in_ok-checks.checks.ok.0 ∙ sym (AllZip-long HasOtherParts empty begun others) in
    let checked = subst (λ it. AllZip (HasChecked told promised it) begun ended) c.alone-alone.ensures.value
    (subst (λ l. AllZip (HasChecked told promised c.alone-alone.result) l ended)
    (written begun (drop (length begun) empty) c.in_ok-checks.checks.len all) c.in-Ok.ensures.done) in
    let handed = subst (λ l. AllZip HasOtherParts l last) c.as_mut_slice-in-Ok.ensures.value c.exchange-in-Ok.ensures.others in
    let all' : c.in-Ok.checks.len ≡ length last = c.in-Ok.checks.ok.0 ∙ sym (AllZip-long HasOtherParts ended last handed) in
    let same = ap (map report_of) (c.as_slice.ensures.value ∙ written last (drop (length last) ended) c.in-Ok.checks.len all') ∙ same_reports ended last handed in
    let given : c.exchange-in-Ok.new.parts ≡ flat_map own_parts ended =
    c.exchange-in-Ok.ensures.back ∙ ap (flat_map own_parts) c.as_mut_slice-in-Ok.ensures.value in
    let ends : c.join_reports.result.fault ≡ (joined_all no_report (map report_of ended)).fault =
    ap (λ r. r.fault) (c.join_reports.ensures ∙ ap (joined_all no_report) same) in
    let left = all_left told promised shape lent empty begun ended c.alone-alone.ensures.limits made.count made.each others c.exchange.ensures.lent checked in
    subst (IsSound shape (promises_of promised lent)) (sym ends) left.sound

pub returns-in-Ok-clause-promised : goal.returns-in-Ok-clause-promised
returns-in-Ok-clause-promised g c =
    let told = g.D.BlockDevice.told in
    let shape = c.args.geometry.now in
    let promised = g.D.BlockDevice.promised in
    let lent = c.args.parts.now in
    let made = c.in_ok-checks.ensures in
    let empty = c.in_ok-checks.checks.items in
    let begun = c.exchange.new.checks in
    let ended = c.in-Ok.checks.items in
    let last = c.exchange-in-Ok.new.checks in
    let others = subst (λ l. AllZip HasOtherParts l begun) c.as_mut_slice.ensures.value c.exchange.ensures.others in
    let all : c.in_ok-checks.checks.len ≡ length begun = c.in_ok-checks.checks.ok.0 ∙ sym (AllZip-long HasOtherParts empty begun others) in
    let checked = subst (λ it. AllZip (HasChecked told promised it) begun ended) c.alone-alone.ensures.value
    (subst (λ l. AllZip (HasChecked told promised c.alone-alone.result) l ended)
    (written begun (drop (length begun) empty) c.in_ok-checks.checks.len all) c.in-Ok.ensures.done) in
    let handed = subst (λ l. AllZip HasOtherParts l last) c.as_mut_slice-in-Ok.ensures.value c.exchange-in-Ok.ensures.others in
    let all' : c.in-Ok.checks.len ≡ length last = c.in-Ok.checks.ok.0 ∙ sym (AllZip-long HasOtherParts ended last handed) in
    let same = ap (map report_of) (c.as_slice.ensures.value ∙ written last (drop (length last) ended) c.in-Ok.checks.len all') ∙ same_reports ended last handed in
    let given : c.exchange-in-Ok.new.parts ≡ flat_map own_parts ended =
    c.exchange-in-Ok.ensures.back ∙ ap (flat_map own_parts) c.as_mut_slice-in-Ok.ensures.value in
    subst (λ l. KeepPromises (promises_of promised lent) (promises_of promised l)) (sym given)
    (all_keep told promised (one_shard shape) lent begun ended c.exchange.ensures.lent checked)

pub returns-in-Err : goal.returns-in-Err
returns-in-Err g c =
    let empty = c.in_ok-checks.checks.items in
    let begun = c.exchange.new.checks in
    let others = subst (λ l. AllZip HasOtherParts l begun) c.as_mut_slice.ensures.value c.exchange.ensures.others in
    let all : c.in_ok-checks.checks.len ≡ length begun = c.in_ok-checks.checks.ok.0 ∙ sym (AllZip-long HasOtherParts empty begun others) in
    let back = c.in-Err.ensures.back ∙ written begun (drop (length begun) empty) c.in_ok-checks.checks.len all in
    let unread = c.exchange-in-Err.ensures.back ∙ ap (flat_map own_parts) (c.as_mut_slice-in-Err.ensures.value ∙ back)
    ∙ c.exchange.ensures.lent in
    record {
      report = tt;
      sound = tt;
      kept = tt;
      promised = subst (λ l. KeepPromises (promises_of g.D.BlockDevice.promised c.args.parts.now) (promises_of g.D.BlockDevice.promised l))
          (sym unread) (keep_none (promises_of g.D.BlockDevice.promised c.args.parts.now));
      err = subst IsRefusal (sym c.into.ensures) (refused c.in-Err.field-0.reason);
      unread = unread;
    }

pub returns-in-Ok-clause-err : goal.returns-in-Ok-clause-err
returns-in-Ok-clause-err g c = tt

pub returns-in-Ok-clause-unread : goal.returns-in-Ok-clause-unread
returns-in-Ok-clause-unread g c = tt
