-- A small text spells the same module in the whole grammar.
use Rattle.std.proofs.Common.{sym, ap, subst, ℕ, ◌+◌, List, ◌∷◌, ◌++◌, length, Result, Ok}
use Rattle.py_tokens.specs.declared.Token.{Token}
use Rattle.py_tokens.specs.TextTokens.{Tokens}
use Rattle.raw_syntax.specs.declared.Raw.{Raw}
use Rattle.py_syntax.specs.declared.Module.{Module}
use Rattle.class_table.specs.ClassList.{classes_of}
use Rattle.small_module.specs.SmallModule.{module_of}
use Rattle.small_trees.proofs.Whole.{no_fault_of_classes, no_fault_of_types, no_fault_of_contracts}
use Rattle.py_front.specs.TreeAnswers.{built, IsTreeAnswer, faultless}
use Rattle.py_front.specs.Answers.{IsFront, parsed}
use Rattle.py_front.specs.declared.FrontFault.{FrontFault}
use Rattle.small_text.specs.TextLines.{lines_of}
use Rattle.small_text.specs.SmallText.{Spells}
use Rattle.small_text.proofs.LineBits.{Row, head, small_tokens}
use Rattle.small_text.proofs.CutRows.{cut, all_are_rows}
use Rattle.small_text.proofs.LinesOfRows.{as_rows}
use Rattle.small_text.proofs.SmallTokens.{tokens}
use Rattle.small_text.proofs.SmallTrees.{small_tree}
use Rattle.small_text.proofs.Answered.{answered}
use Rattle.small_text.proofs.ReadRows.{ReadLines, read_lines}

small_text_tokens : (text : List ℕ) (m : Module) (small : ReadLines 1 (lines_of text) m) → Tokens text (small_tokens (1 + length small.skips) small.rows)
small_text_tokens text m small =
    let rows : List Row = small.skips ++ head ∷ small.rows in
    let (ended, is, closed) = as_rows text rows small.text in
    let pieces = cut rows ended (all_are_rows small.skips small.rows small.passed small.fine) in
    subst (λ t. Tokens t (small_tokens (1 + length small.skips) small.rows)) (sym is) (tokens small.skips small.rows ended small.passed small.fine small.some closed pieces)

pub same_module : (text : List ℕ) (m : Module) → Spells text m → IsFront text (Ok m)
same_module text m spelled =
    let small = read_lines 1 (lines_of text) m spelled in
    let n : ℕ = 1 + length small.skips in
    let ts : List Token = small_tokens n small.rows in
    let tree : Raw = small_tree n small.rows in
    let fine : IsTreeAnswer tree (built (module_of tree)) = faultless (no_fault_of_classes tree m small.reads) (no_fault_of_types tree m (classes_of tree) small.reads) (no_fault_of_contracts tree m small.reads) in
    subst (λ (r : Result Module FrontFault). IsFront text r) (ap built small.reads) (parsed ts tree (built (module_of tree)) (small_text_tokens text m small) (answered n small.rows small.some small.few) fine)
