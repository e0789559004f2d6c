-- The small modules, read by the machine.
use Rattle.std.proofs.Common.{◌≡◌, refl, ◌++◌, [], ◌∷◌}
use Rattle.py_grammar.specs.Spelling.{Spells, IsFirstBad}
use Rattle.py_grammar.specs.Symbols.{vmodule}
use Rattle.py_grammar.specs.Machine.{bad, done, run, run_module}
use Rattle.py_grammar.specs.SmallModules.{at, head, difference, difference_tree, condition, condition_tree, wrong}
use Rattle.py_grammar.proofs.Sound.{spells, first_bad}

difference_read : run_module (head ++ difference) ≡ done (vmodule difference_tree ∷ [])
unfolding run
difference_read = refl

condition_read : run_module (head ++ condition) ≡ done (vmodule condition_tree ∷ [])
unfolding run
condition_read = refl

wrong_read : run_module (head ++ wrong) ≡ bad (at 1 24)
unfolding run
wrong_read = refl

pub difference_is_spelled : Spells (head ++ difference) difference_tree
difference_is_spelled = spells (head ++ difference) difference_tree difference_read

pub condition_is_spelled : Spells (head ++ condition) condition_tree
condition_is_spelled = spells (head ++ condition) condition_tree condition_read

pub wrong_is_refused : IsFirstBad (head ++ wrong) (at 1 24)
wrong_is_refused = first_bad (head ++ wrong) (at 1 24) wrong_read
