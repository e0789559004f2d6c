use Rattle.std.proofs.Common.{◌≡◌, ◌++◌, map, take}
use Rattle.type_base.specs.Faults.{joined}
use Rattle.type_forms.specs.Supers.{parts_of, uses, argument_super_faults, link_super_faults}
use Rattle.type_forms.proofs.super_use.+supers.Given as goal

abbrev pub invariant-note_each-parts : goal.invariant-note_each-parts
invariant-note_each-parts l = l.found ≡ l.fn.found ++ parts_of (map uses (take l.part-index l.part-items))

abbrev pub invariant-note_arguments-arguments : goal.invariant-note_arguments-arguments
invariant-note_arguments-arguments l = l.found ≡ l.fn.found ++ joined (map argument_super_faults (take l.argument-index l.argument-items))

abbrev pub invariant-note_links-links : goal.invariant-note_links-links
invariant-note_links-links l = l.found ≡ l.fn.found ++ joined (map link_super_faults (take l.link-index l.link-items))
