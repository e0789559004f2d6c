use Rattle.std.proofs.Common.{◌≡◌, ◌++◌, [], take, drop}
use Rattle.type_ways.specs.Settings.{faults_behind}
use Rattle.type_ways.proofs.set_names.note_all.Given as goal

abbrev pub invariant-settings : goal.invariant-settings
invariant-settings l = record { at : l.at ≡ l.setting-index; same : l.found ++ faults_behind l.params (take l.setting-index l.all) (drop l.setting-index l.all) ≡ l.fn.found ++ faults_behind l.params [] l.all }
