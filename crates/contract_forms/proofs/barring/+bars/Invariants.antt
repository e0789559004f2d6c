use Rattle.std.proofs.Common.{◌≡◌, map, drop}
use Rattle.std.specs.List.{list_any}
use Rattle.contract_forms.specs.Readings.{bars, argument_bars, link_bars, reading, argument_of, link_of}
use Rattle.contract_forms.proofs.barring.+bars.Given as goal

abbrev pub invariant-some_part_bars-parts : goal.invariant-some_part_bars-parts
invariant-some_part_bars-parts l = list_any bars (map reading (drop l.part-index l.part-items)) ≡ list_any bars (map reading l.part-items)

abbrev pub invariant-some_argument_bars-arguments : goal.invariant-some_argument_bars-arguments
invariant-some_argument_bars-arguments l = list_any argument_bars (map argument_of (drop l.argument-index l.argument-items)) ≡ list_any argument_bars (map argument_of l.argument-items)

abbrev pub invariant-some_link_bars-links : goal.invariant-some_link_bars-links
invariant-some_link_bars-links l = list_any link_bars (map link_of (drop l.link-index l.link-items)) ≡ list_any link_bars (map link_of l.link-items)
