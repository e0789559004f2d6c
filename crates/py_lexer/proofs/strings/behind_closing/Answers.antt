use Rattle.std.proofs.Common.{List, ℕ, subst, sym, ap, ◌∙◌, [], ◌∷◌, ◌++◌}
use Rattle.py_tokens.specs.StringForms.{Part, LoneBackslash, GoesOn}
use Rattle.py_lexer.specs.declared.strings.Reading.{Reading}
use Rattle.py_lexer.specs.declared.strings.Reading.TheVariants as readings
use Rattle.py_lexer.specs.StringReading.{quotes_of, StandsNext}
use Rattle.py_lexer.proofs.StringWhole.{never_from, skips_lone, skips_part}
use Rattle.py_lexer.proofs.strings.behind_closing.Goals as goal

pub returns-in-Stop-Unclosed : goal.returns-in-Stop-Unclosed
returns-in-Stop-Unclosed c = never_from (quotes_of c.args.opening) c.args.codes.now c.parts.invariant.0 c.parts.rest.now c.parts.invariant.1 (subst (λ (r : Reading). StandsNext (quotes_of c.args.opening) c.parts.rest.now r) (c.in-Stop-Unclosed.is ∙ ap (λ s. readings.Stop s) c.in-Stop-Unclosed.field-0-is) c.next_part.ensures)

pub parts-preserved-in-Stop-LoneBackslash : goal.parts-preserved-in-Stop-LoneBackslash
parts-preserved-in-Stop-LoneBackslash c = (c.parts.invariant.0 ++ LoneBackslash ∷ [], subst (λ (x : List ℕ). GoesOn (quotes_of c.args.opening) c.args.codes.now (c.parts.invariant.0 ++ LoneBackslash ∷ []) x) (sym c.split_at-in-Stop-LoneBackslash.ensures.back) (skips_lone (quotes_of c.args.opening) c.args.codes.now c.parts.invariant.0 c.parts.rest.now c.parts.invariant.1 (subst (λ (r : Reading). StandsNext (quotes_of c.args.opening) c.parts.rest.now r) (c.in-Stop-LoneBackslash.is ∙ ap (λ s. readings.Stop s) c.in-Stop-LoneBackslash.field-0-is) c.next_part.ensures)))

pub parts-preserved : goal.parts-preserved
parts-preserved c = subst (λ (x : List ℕ). (parts : List Part) × GoesOn (quotes_of c.args.opening) c.args.codes.now parts x) (sym c.split_at-in-Part.ensures.back) (skips_part (quotes_of c.args.opening) c.args.codes.now c.parts.invariant.0 c.parts.rest.now c.in-Part.len c.in-Part.field-1 c.parts.invariant.1 (subst (λ (r : Reading). StandsNext (quotes_of c.args.opening) c.parts.rest.now r) c.in-Part.is c.next_part.ensures))
