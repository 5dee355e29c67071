-- What a command does, by its words.
use Rattle.std.specs.Prelude.{◌≡◌, ℕ, List, false, string_bytes}
use Rattle.cdm_check.specs.declared.paths.FilePaths.{FilePaths}
use Rattle.cdm_feed.specs.declared.asked.Asked.TheVariants as ask
use Rattle.cdm_command.specs.declared.command.Command.{Command}
use Rattle.cdm_command.specs.declared.command.Command.TheVariants as command
use Rattle.cdm_ask.specs.declared.job.Job.{Job}
use Rattle.cdm_ask.specs.declared.job.Job.TheVariants as does

-- it prints this text
abbrev pub Prints : List ℕ → Job → Type 0
Prints text (does.Print printed) = printed.now ≡ text
Prints text other = ⊥

-- this is what a command does; a check tells its files by these paths
abbrev pub IsJobOf : FilePaths → Command → Job → Type 0
IsJobOf paths (command.Tell files text workers is_strict) = λ job. job ≡ does.Ask (record { files = files; asked = ask.Day text; workers = workers; is_strict = is_strict })
IsJobOf paths (command.Check files format) = λ job. job ≡ does.Ask (record { files = files; asked = ask.Check paths format; workers = 1; is_strict = false })
IsJobOf paths (command.Carry files text) = λ job. job ≡ does.Ask (record { files = files; asked = ask.Carry text; workers = 1; is_strict = false })
IsJobOf paths (command.Live airport feed1 feed2) = λ job. job ≡ does.Live airport feed1 feed2
IsJobOf paths (command.Serve airport journal format sentences) = λ job. job ≡ does.Serve airport journal (record { format = format; sentences = sentences })
IsJobOf paths (command.Kinds format) = λ job. job ≡ does.Kinds format
IsJobOf paths (command.Print text) = Prints (string_bytes text)
