-- The grammar of the command line, as clap's contracts speak of one: its commands with their paths.
use Rattle.std.specs.Prelude.{◌≡◌, List, Option, Some, None, true, codes, if◌then◌else◌, option_map}
use Rattle.std.specs.Str.{bytes_eq}
use Rattle.clap.specs.Words.{App, Rule, Row, first_of, new_app, new_rule, with_rule, with_subcommand}
use Rattle.r6_command.specs.declared.invocation.Paths.{Paths}
use Rattle.r6_command.specs.declared.invocation.Paths.TheVariants.{Config, Script, Both}
use Rattle.r6_command.specs.CommandLine.{Asked, Text, geometry, create, verify, simulate, run, said}

-- a path, which has to be there
abbrev pub path_rule : (id : Text) → Rule
path_rule id = record (new_rule id) { value_names = 1; required = true }

abbrev pub with_one_path : (name : Text) → App
with_one_path name = with_rule (new_app name) (path_rule (codes "first"))

abbrev pub with_two_paths : (name : Text) → App
with_two_paths name = with_rule (with_one_path name) (path_rule (codes "second"))

-- a command has to be named, help is the answer to no word at all, `help` is no command, and there is a version
abbrev pub program : App
program =
    let app = new_app (codes "raid6") in
    record app {
      top = record app.top {
        subcommand_required = true;
        arg_required_else_help = true;
        disable_help_subcommand = true;
        has_version = true;
      };
    }

abbrev pub with_paths : Paths → (name : Text) → App
with_paths Config name = with_one_path name
with_paths Script name = with_one_path name
with_paths Both name = with_two_paths name

-- an app with one more command
abbrev pub with_command : App → Paths → (name : Text) → App
with_command app paths name = with_subcommand app (with_paths paths name).top

abbrev pub grammar : App
grammar =
    with_command (with_command (with_command (with_command (with_command program
    Config (codes "geometry"))
    Config (codes "create"))
    Config (codes "verify"))
    Script (codes "simulate"))
    Both (codes "run")

-- the command of this name, by the first and the second path that were found
abbrev pub named : (name : Text) (first second : Option Text) → Option Asked
named name None second = None
named name (Some first) second =
    if bytes_eq (codes "geometry") name then Some (geometry first)
    else if bytes_eq (codes "create") name then Some (create first)
    else if bytes_eq (codes "verify") name then Some (verify first)
    else if bytes_eq (codes "simulate") name then Some (simulate first)
    else if bytes_eq (codes "run") name then option_map (run first) second
    else None

-- what was found, as a command with its paths
abbrev pub asked_in : Option (Text × List Row) → Option Asked
asked_in None = None
asked_in (Some found) = named found.0 (first_of (codes "first") found.1) (first_of (codes "second") found.1)

-- what was found is what the words say
abbrev pub Finds : List Text → Option (Text × List Row) → Type 0
Finds words found = (asked : Asked) × (asked_in found ≡ Some asked) × (said words ≡ Some asked)
