-- A script that was run, or what stops it, while its writer keeps what it holds.
use Rattle.std.proofs.Common.{◌≡◌, ◌≢◌, ◌⊎◌, true, List, ℕ, Option, Ok, IfSome, inl, inr, refl, sym, subst}
use Rattle.std.specs.Io.KnownBytes.{Keeps}
use Rattle.r6_script.specs.RunScript.{ExplainsRun, SayRun}
use Rattle.r6_script.specs.declared.run_event.RunEvent.{RunEvent}
use Rattle.r6_run.specs.Faults.{IsRunningFault}
use Rattle.r6_run.specs.Runs.{HasRun}
use Rattle.r6_run.specs.declared.ending.Ending.{Ending}
use Rattle.r6_run.specs.declared.fault.RunFault.{RunFault}
use Rattle.r6_run.specs.declared.fault.RunFault.TheVariants as run
use Rattle.r6_script.specs.Script.{lines_of}
use Rattle.r6_script.specs.declared.script.ScriptFault.{ScriptFault}
use Rattle.r6_settings.specs.Settings.{Values, settings_in}
use Rattle.r6_execute.specs.Commands.{HasServed, IsScriptFault, IsSettingsFault, StopsServing}
use Rattle.r6_execute.specs.Faults.{fault_of_run}
use Rattle.r6_execute.specs.declared.ending.Ending as execute
use Rattle.r6_execute.specs.declared.fault.Fault.{Fault}
use Rattle.r6_execute.specs.declared.fault.Fault.TheVariants as told
use Rattle.r6_execute.specs.declared.fault.Input.TheVariants as input
use Rattle.r6_execute.proofs.Known.{of_file}
use Rattle.r6_execute.proofs.Stopped.{keeps_same}
use Rattle.r6_execute.proofs.Writes.{appends_kept}

pub run_kept : (values : Values) (script : List RunEvent) (end : Ending) (old mid new : Option (List ℕ)) → HasRun values script old mid end
    → Keeps mid new → HasRun values script old new end
run_kept values script end old mid new run kept = record {
  devices = run.devices;
  opened = run.opened;
  parts = run.parts;
  given = run.given;
  events = run.events;
  asked = run.asked;
  served = run.served;
  done = run.done;
  replied = run.replied;
  printed = appends_kept old mid new _ _ refl run.printed kept;
  ends = run.ends;
}

-- ---- a text that is run, for whatever is known of the files that it and the settings are read from

abbrev pub ServesAnyhow : Values → (text : List ℕ) → (old new : Option (List ℕ)) → execute.Ending → Type 0
ServesAnyhow values text old new end = (settings script : Option (List ℕ)) → IfSome settings (λ held. settings_in true held ≡ Ok values)
    → IfSome script (λ held. text ≡ held) → HasServed settings script old new end

abbrev pub StopsAnyhow : Values → (text : List ℕ) → (old new : Option (List ℕ)) → Fault → Type 0
StopsAnyhow values text old new fault = (settings script : Option (List ℕ)) → IfSome settings (λ held. settings_in true held ≡ Ok values)
    → IfSome script (λ held. text ≡ held) → StopsServing settings script old new fault

-- .. and whatever is known of the settings' file alone
abbrev pub ServesFor : Values → (script old new : Option (List ℕ)) → execute.Ending → Type 0
ServesFor values script old new end = (settings : Option (List ℕ)) → IfSome settings (λ held. settings_in true held ≡ Ok values)
    → HasServed settings script old new end

abbrev pub StopsFor : Values → (script old new : Option (List ℕ)) → Fault → Type 0
StopsFor values script old new fault = (settings : Option (List ℕ)) → IfSome settings (λ held. settings_in true held ≡ Ok values)
    → StopsServing settings script old new fault

-- ---- what stops a run

pub by_settings : (settings script held : Option (List ℕ)) (fault : Fault) → IsSettingsFault true settings fault → StopsServing settings script held held fault
by_settings settings script held fault is = inl (is, keeps_same held)

-- with settings that are right ..
module _ (settings script : Option (List ℕ)) (values : Values) (said : IfSome settings (λ held. settings_in true held ≡ Ok values)) where
  -- a script that can't be read
  pub by_reading : (held : Option (List ℕ)) (fault : Fault) → (fault ≡ told.Memory) ⊎ (fault ≡ told.Unreadable input.Script)
      → StopsServing settings script held held fault
  by_reading held fault (inl memory) = inr (values, said, inl (subst (IsScriptFault ExplainsRun script) (sym memory) tt, keeps_same held))
  by_reading held fault (inr unread) = inr (values, said, inl (subst (IsScriptFault ExplainsRun script) (sym unread) refl, keeps_same held))

  pub by_script : (held : Option (List ℕ)) (text : List ℕ) (fault : ScriptFault) → IfSome script (λ t. text ≡ t)
      → ExplainsRun (lines_of text) fault → StopsServing settings script held held (told.Script fault)
  by_script held text fault read is =
      inr (values, said, inl (of_file (λ t. ExplainsRun (lines_of t) fault) script text read is, keeps_same held))

  -- .. and a script of these events
  module _ (old new : Option (List ℕ)) (text : List ℕ) (events : List RunEvent) (read : IfSome script (λ held. text ≡ held))
      (says : SayRun (lines_of text) events) where
    says_held : IfSome script (λ held. SayRun (lines_of held) events)
    says_held = of_file (λ held. SayRun (lines_of held) events) script text read says

    -- before any line is printed, but where a line is refused
    pub by_run : (fault : RunFault) → IsRunningFault values.shape.slots values.lost events fault → (fault ≢ run.Output → new ≡ old)
        → StopsServing settings script old new (fault_of_run fault)
    by_run (run.Device slot fault) is kept = inr (values, said, inr (events, says_held, inl (is, subst (Keeps old) (sym (kept (λ same. cc))) (keeps_same old))))
    by_run run.Output is kept = inr (values, said, inr (events, says_held, inr refl))
    by_run run.Memory is kept = inr (values, said, inr (events, says_held, inl (tt, subst (Keeps old) (sym (kept (λ same. cc))) (keeps_same old))))
    by_run run.Thread is kept = inr (values, said, inr (events, says_held, inl (tt, subst (Keeps old) (sym (kept (λ same. cc))) (keeps_same old))))

    pub by_output : (fault : Fault) → fault ≡ told.Output → StopsServing settings script old new fault
    by_output fault is = inr (values, said, inr (events, says_held, inr is))
