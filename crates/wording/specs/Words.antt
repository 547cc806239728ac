-- Words that the program prints, read back.
use Rattle.std.specs.Prelude.{ℕ, List, if◌then◌else◌, codes, Some, None, Option}
use Rattle.std.specs.Str.{bytes_eq}
use Rattle.extract.specs.declared.stage.Stage.{Stage}
use Rattle.extract.specs.declared.stage.Stage.TheVariants.{Idle, Between, Begun, Extra, Running, Changed, Complete}

-- the stage that has a name
abbrev pub stage_named : List ℕ → Option Stage
stage_named name =
    if bytes_eq name (codes "idle") then Some Idle
    else (if bytes_eq name (codes "between") then Some Between
    else (if bytes_eq name (codes "begun") then Some Begun
    else (if bytes_eq name (codes "extra") then Some Extra
    else (if bytes_eq name (codes "running") then Some Running
    else (if bytes_eq name (codes "changed") then Some Changed
    else (if bytes_eq name (codes "complete") then Some Complete
    else None))))))
