-- What is found in a statement, by its form.
use Rattle.std.proofs.Common.{◌≡◌, ◌++◌, ap, sym, ◌∙◌, append_assoc, false, List, map, rules}
use Rattle.raw_syntax.specs.declared.RawExpr.{RawExpr}
use Rattle.raw_syntax.specs.declared.RawStmt.{RawStmt, fold_out-RawStmt}
use Rattle.raw_syntax.specs.declared.RawStmtForm.{RawStmtForm, RawStmtForm-F, fold-RawStmtForm, out-RawStmtForm, map-RawStmtForm, fold_out-RawStmtForm, the_lemmas}
use Rattle.raw_syntax.specs.declared.RawStmtForm.TheVariants as forms
use Rattle.raw_syntax.specs.declared.RawElif.{RawElif}
use Rattle.raw_syntax.specs.declared.RawHandler.{RawHandler}
use Rattle.contract_kinds.specs.declared.Breach.{Breach}
use Rattle.contract_kinds.specs.declared.Spot.{Spot}
use Rattle.contract_kinds.specs.declared.Spot.TheVariants as spots
use Rattle.contract_forms.specs.Readings.{Scope}
use Rattle.contract_forms.specs.Heads.{Line, Block, block_breaches, lone_breaches, part_breaches, all_blocks, in_code, line_form, line, part_block, handler_block}

abbrev Layer : Type 0
Layer = RawStmtForm-F RawStmtForm RawElif RawHandler RawStmt

abbrev form_line : RawStmtForm → Line
form_line = fold-RawStmtForm Line Block Block Line line_form (λ e. part_breaches e.condition e.body) (λ h. lone_breaches h.body) (λ s. s.form)

-- one level, where each part is read
abbrev layer : Layer → Line
layer f = line_form (map-RawStmtForm RawStmtForm RawElif RawHandler RawStmt Line Block Block Line form_line part_block handler_block line f)

read : (s : RawStmt) (f : Layer) → out-RawStmtForm s.form ≡ f → line s ≡ layer f
read s f is =
    fold_out-RawStmt Line Block Block Line line_form (λ e. part_breaches e.condition e.body) (λ h. lone_breaches h.body) (λ s. s.form) s
    ∙ fold_out-RawStmtForm Line Block Block Line line_form (λ e. part_breaches e.condition e.body) (λ h. lone_breaches h.body) (λ s. s.form) s.form
    ∙ ap layer is

found_in : (s : RawStmt) (f : Layer) (sc : Scope) (back at : Spot) → out-RawStmtForm s.form ≡ f → (line s).breaches sc back at ≡ (layer f).breaches sc back at
found_in s f sc back at is = ap (λ (l : Line). l.breaches sc back at) (read s f is)

out-If : (e : RawExpr) (ss : List RawStmt) (elifs : List RawElif) (other : List RawStmt) → out-RawStmtForm (forms.If e ss elifs other) ≡ RawStmtForm-F.If e ss elifs other
out-If e ss elifs other = search (rules, the_lemmas)

out-While : (e : RawExpr) (ss : List RawStmt) → out-RawStmtForm (forms.While e ss) ≡ RawStmtForm-F.While e ss
out-While e ss = search (rules, the_lemmas)

out-Try : (ss : List RawStmt) (hs : List RawHandler) (other last : List RawStmt) → out-RawStmtForm (forms.Try ss hs other last) ≡ RawStmtForm-F.Try ss hs other last
out-Try ss hs other last = search (rules, the_lemmas)

out-With : (e : RawExpr) (ss : List RawStmt) → out-RawStmtForm (forms.With e ss) ≡ RawStmtForm-F.With e ss
out-With e ss = search (rules, the_lemmas)

pub if_is : (s : RawStmt) (e : RawExpr) (ss : List RawStmt) (elifs : List RawElif) (other : List RawStmt) (sc : Scope) (back at : Spot) → s.form ≡ forms.If e ss elifs other
    → (line s).breaches sc back at ≡ in_code sc e ++ (block_breaches (map line ss) sc back spots.Alone ++ (all_blocks sc back (map part_block elifs) ++ block_breaches (map line other) sc back spots.Alone))
if_is s e ss elifs other sc back at is = found_in s (RawStmtForm-F.If e ss elifs other) sc back at (ap out-RawStmtForm is ∙ out-If e ss elifs other)

pub while_is : (s : RawStmt) (e : RawExpr) (ss : List RawStmt) (sc : Scope) (back at : Spot) → s.form ≡ forms.While e ss
    → (line s).breaches sc back at ≡ in_code sc e ++ block_breaches (map line ss) sc back (spots.LoopHead false)
while_is s e ss sc back at is = found_in s (RawStmtForm-F.While e ss) sc back at (ap out-RawStmtForm is ∙ out-While e ss)

pub try_is : (s : RawStmt) (ss : List RawStmt) (hs : List RawHandler) (other last : List RawStmt) (sc : Scope) (back at : Spot) → s.form ≡ forms.Try ss hs other last
    → (line s).breaches sc back at ≡ block_breaches (map line ss) sc back spots.Alone ++ (all_blocks sc back (map handler_block hs) ++ (block_breaches (map line other) sc back spots.Alone ++ block_breaches (map line last) sc back spots.Alone))
try_is s ss hs other last sc back at is = found_in s (RawStmtForm-F.Try ss hs other last) sc back at (ap out-RawStmtForm is ∙ out-Try ss hs other last)

pub with_is : (s : RawStmt) (e : RawExpr) (ss : List RawStmt) (sc : Scope) (back at : Spot) → s.form ≡ forms.With e ss
    → (line s).breaches sc back at ≡ in_code sc e ++ block_breaches (map line ss) sc back spots.Alone
with_is s e ss sc back at is = found_in s (RawStmtForm-F.With e ss) sc back at (ap out-RawStmtForm is ∙ out-With e ss)

-- one list behind another
pub joined : (old mid a b whole : List Breach) → mid ≡ old ++ a → whole ≡ a ++ b → mid ++ b ≡ old ++ whole
joined old mid a b whole m w = ap (λ x. x ++ b) m ∙ (append_assoc old a b ∙ sym (ap (λ x. old ++ x) w))

-- four lists one behind another
pub joined_four : (old m n o a b c d whole : List Breach) → m ≡ old ++ a → n ≡ m ++ b → o ≡ n ++ c → whole ≡ a ++ (b ++ (c ++ d)) → o ++ d ≡ old ++ whole
joined_four old m n o a b c d whole p q r w =
    ap (λ x. x ++ d) (r ∙ ap (λ x. x ++ c) (q ∙ ap (λ x. x ++ b) p))
    ∙ (append_assoc ((old ++ a) ++ b) c d ∙ (append_assoc (old ++ a) b (c ++ d) ∙ (append_assoc old a (b ++ (c ++ d)) ∙ sym (ap (λ x. old ++ x) w))))
