-- What the lines of a small text say is what their trees say.
use Rattle.std.proofs.Common.{◌≡◌, refl, sym, ap, subst, ◌∙◌, ℕ, ◌+◌, Bool, true, false, not, ◌&&◌, ◌||◌, nat_lt, nat_le, if◌then◌else◌, bytes_eq, List, [], ◌∷◌, ◌++◌, length, append_assoc, Ok, Err, IsTrue, codes, arith}
use Rattle.std.specs.List.{list_any, list_all}
use Rattle.std.proofs.lemmas.Bool.{and_parts, and_from, or_parts}
use Rattle.std.proofs.lemmas.Slice.Eq.{bytes_eq-Decides}
use Rattle.class_table.specs.Names.{built_in_names}
use Rattle.py_base.specs.declared.Place.{Place}
use Rattle.py_syntax.specs.declared.Expr.{Expr}
use Rattle.py_syntax.specs.declared.PrintArg.TheVariants.{Value}
use Rattle.py_syntax.specs.declared.Stmt.{Stmt}
use Rattle.py_syntax.specs.declared.StmtForm.TheVariants.{Store, Check, Print}
use Rattle.raw_syntax.specs.declared.RawExpr.{RawExpr}
use Rattle.raw_syntax.specs.declared.Comparison.TheVariants as compares
use Rattle.py_tokens.specs.declared.Mark.TheVariants as marks
use Rattle.small_module.specs.SmallTree.{local_number, with_name, view, View, name, call, value, equation_at, seen_as, name_piece, ◌>>=◌, sum_of}
use Rattle.small_module.specs.SmallTree as tree
use Rattle.small_module.specs.SmallModule.{statement, store_of, last_link, check_of, print_of, keeping, form_of, stmt_of}
use Rattle.small_text.specs.SmallForms.{is_letter, is_name, is_reserved, stmt_at, SpellsExpr, SpellsStmt, spells_pass, spells_store, spells_check, spells_print}
use Rattle.small_text.proofs.LineBits.{Sum, Said, passes, stores, checks, prints, says, space, mark, sum_bits, bits_text, row_text, at}
use Rattle.small_text.proofs.SmallRows.{IsSaid}
use Rattle.small_text.proofs.SmallTrees.{sum_end, sum_expr, equal_at, checked_expr, print_expr, printed_expr, said_stmt}
use Rattle.small_text.proofs.FittingBits.{bits_text-append}
use Rattle.small_text.proofs.StmtForms.{out-Pass, out-Assign, out-Assert, out-Eval}
use Rattle.small_text.proofs.SmallViews.{name_seen, chain_seen, call_seen}
use Rattle.small_text.proofs.ReadSums.{read_sum, sum_ends}

-- the statement that a line spells
pub record ReadStmt (names : List (List ℕ)) (line : ℕ) (bytes : List ℕ) (s : Stmt) (after : List (List ℕ)) : Type 0 where
  pub said : Said
  pub text : bytes ≡ row_text (says said)
  pub fine : IsSaid said
  pub reads : stmt_of names (said_stmt line said) ≡ Ok (s, after)

-- a word of letters a to z that has no meaning of its own
unfoldable is_free : List ℕ → Bool
is_free w = list_all is_letter w && not (is_reserved w)

refuted : (b : Bool) → (b ≡ true → ⊥) → b ≡ false
refuted true h = absurd (h refl)
refuted false h = refl

true_is_not_false : (b : Bool) → b ≡ true → b ≡ false → ⊥
true_is_not_false b h k = cc

-- a free word is none of those that aren't
is_other : (n w : List ℕ) → is_free n ≡ true → is_free w ≡ false → bytes_eq n w ≡ false
is_other n w free taken = refuted (bytes_eq n w) (λ h. true_is_not_false (is_free w) (subst (λ (x : List ℕ). is_free x ≡ true) ((bytes_eq-Decides n w).0 h) free) taken)

none_of : (n : List ℕ) (ws : List (List ℕ)) → is_free n ≡ true → list_any is_free ws ≡ false → list_any (bytes_eq n) ws ≡ false
none_of n [] free h = refl
none_of n (w ∷ ws) free h =
    let (first, more) = or_parts (is_free w) (list_any is_free ws) h in
    ap (λ (b : Bool). b || list_any (bytes_eq n) ws) (is_other n w free first) ∙ none_of n ws free more

name_is_free : (n : List ℕ) → IsTrue (is_name n) → is_free n ≡ true
unfolding is_name is_free
name_is_free n h =
    let (front, last) = and_parts (list_all is_letter n && nat_lt 0 (length n) && nat_le (length n) 20) (not (is_reserved n)) h in
    let (letters, short) = and_parts (list_all is_letter n && nat_lt 0 (length n)) (nat_le (length n) 20) front in
    let (all, some) = and_parts (list_all is_letter n) (nat_lt 0 (length n)) letters in
    and_from (list_all is_letter n) (not (is_reserved n)) all last

-- a name is none of the words that have a meaning of their own
not_reserved : (n : List ℕ) → IsTrue (is_name n) → tree.is_reserved n ≡ false
unfolding is_free is_reserved
not_reserved n h =
    let free : is_free n ≡ true = name_is_free n h in
    ap (λ (b : Bool). b || (bytes_eq n (codes "main") || bytes_eq n (codes "self"))) (none_of n built_in_names free refl)
    ∙ ap (λ (b : Bool). b || bytes_eq n (codes "self")) (is_other n (codes "main") free refl)
    ∙ is_other n (codes "self") free refl

stored : (names : List (List ℕ)) (p : Place) (n : List ℕ) (target given : RawExpr) (e : Expr) → view names target ≡ seen_as (name n) (name_piece names p n ∷ []) p → tree.is_reserved n ≡ false → ((q : Place) → sum_of q (view names given).parts ≡ Ok e) → store_of names p (view names target) (view names given) ≡ Ok (statement p (Store (local_number names n) e), with_name names n)
stored names p n target given e is free reads =
    let v : View = view names given in
    ap (λ t. store_of names p t v) is
    ∙ ap (λ (b : Bool). (if b then Err p else (sum_of v.place v.parts >>= λ e. Ok (statement p (Store (local_number names n) e), with_name names n)))) free
    ∙ ap (λ r. r >>= λ e. Ok (statement p (Store (local_number names n) e), with_name names n)) (reads v.place)

checked : (names : List (List ℕ)) (line : ℕ) (x y : Sum) (a b : Expr) → ((q : Place) → sum_of q (view names (sum_expr line 12 x)).parts ≡ Ok a) → ((q : Place) → sum_of q (view names (sum_expr line (sum_end 12 x + 1 + 2 + 1) y)).parts ≡ Ok b) → check_of (at line 5) (view names (checked_expr line x y)).shape ≡ Ok (stmt_at line (Check (equation_at (equal_at line x) a b)))
checked names line x y a b left right =
    let p : Place = at line 5 in
    let q : Place = equal_at line x in
    let u : RawExpr = sum_expr line 12 x in
    let v : RawExpr = sum_expr line (sum_end 12 x + 1 + 2 + 1) y in
    ap (check_of p) (chain_seen names q q compares.Equal u v)
    ∙ ap (λ r. r >>= λ a. sum_of q (view names v).parts >>= λ b. last_link [] (statement p (Check (equation_at q a b)))) (left p)
    ∙ ap (λ r. r >>= λ b. last_link [] (statement p (Check (equation_at q a b)))) (right q)

printed : (names : List (List ℕ)) (line : ℕ) (x : Sum) (e : Expr) → ((q : Place) → sum_of q (view names (sum_expr line 11 x)).parts ≡ Ok e) → print_of (at line 5) (view names (printed_expr line x)).place (view names (printed_expr line x)).shape ≡ Ok (stmt_at line (Print (Value e ∷ [])))
printed names line x e reads =
    let p : Place = at line 5 in
    let v : View = view names (sum_expr line 11 x) in
    ap (λ (k : View). print_of p k.place k.shape) (call_seen names p (print_expr line) (sum_expr line 11 x))
    ∙ ap (λ (k : View). print_of p p (call k.shape (value v.place v.parts ∷ []))) (name_seen names p (codes "print"))
    ∙ ap (λ r. r >>= λ e. Ok (statement p (Print (Value e ∷ [])))) (reads v.place)

-- the text of a row is these parts
store_text : (n x : List ℕ) (e : Sum) (bytes : List ℕ) → bytes ≡ codes "    " ++ n ++ codes " = " ++ x → x ≡ bits_text (sum_bits e) → bytes ≡ row_text (says (stores n e))
store_text n x e bytes whole is = whole ∙ ap (λ t. codes "    " ++ n ++ codes " = " ++ t) is ∙ append_assoc (codes "    " ++ n) (codes " = ") (bits_text (sum_bits e)) ∙ append_assoc (codes "    ") n (codes " = " ++ bits_text (sum_bits e))

check_text : (x y : List ℕ) (a b : Sum) (bytes : List ℕ) → bytes ≡ codes "    assert " ++ x ++ codes " == " ++ y → x ≡ bits_text (sum_bits a) → y ≡ bits_text (sum_bits b) → bytes ≡ row_text (says (checks a b))
check_text x y a b bytes whole left right =
    whole ∙ ap (λ t. codes "    assert " ++ t ++ codes " == " ++ y) left ∙ ap (λ t. codes "    assert " ++ bits_text (sum_bits a) ++ codes " == " ++ t) right
    ∙ append_assoc (codes "    assert " ++ bits_text (sum_bits a)) (codes " == ") (bits_text (sum_bits b))
    ∙ append_assoc (codes "    assert ") (bits_text (sum_bits a)) (codes " == " ++ bits_text (sum_bits b))
    ∙ ap (λ t. codes "    assert " ++ t) (sym (bits_text-append (sum_bits a) (space ∷ mark marks.Equal (codes "==") ∷ space ∷ sum_bits b)))

print_text : (x : List ℕ) (e : Sum) (bytes : List ℕ) → bytes ≡ codes "    print(" ++ x ++ codes ")" → x ≡ bits_text (sum_bits e) → bytes ≡ row_text (says (prints e))
print_text x e bytes whole is =
    whole ∙ ap (λ t. codes "    print(" ++ t ++ codes ")") is
    ∙ append_assoc (codes "    print(") (bits_text (sum_bits e)) (codes ")")
    ∙ ap (λ t. codes "    print(" ++ t) (sym (bits_text-append (sum_bits e) (mark marks.CloseParen (codes ")") ∷ [])))

pub read_stmt : (names : List (List ℕ)) (line : ℕ) (bytes : List ℕ) (s : Stmt) (after : List (List ℕ)) → SpellsStmt names line bytes s after → ReadStmt names line bytes s after
read_stmt names line bytes s after (spells_pass whole is same) = record {
  said = passes;
  text = whole;
  fine = tt;
  reads = ap (form_of names (at line 5)) out-Pass ∙ ap (λ t. Ok (t, names)) (sym is) ∙ ap (λ t. Ok (s, t)) (sym same);
}
read_stmt names line bytes s after (spells_store n x e whole fine spelled is same) =
    let given = read_sum names line (5 + length n + 1 + 1 + 1) x e (subst (λ c. SpellsExpr names line c x e) (omega arith) spelled) in
    let target = name_seen names (at line 5) n in
    record {
      said = stores n given.x;
      text = store_text n x given.x bytes whole given.text;
      fine = (fine, given.fine);
      reads = ap (form_of names (at line 5)) (out-Assign _ _) ∙ stored names (at line 5) n _ _ e target (not_reserved n fine) given.reads ∙ ap (λ t. Ok (t, with_name names n)) (sym is) ∙ ap (λ t. Ok (s, t)) (sym same);
    }
read_stmt names line bytes s after (spells_check x y a b whole left right is same) =
    let u = read_sum names line 12 x a left in
    let here : 12 + length x ≡ sum_end 12 u.x = ap (λ t. 12 + length t) u.text ∙ sym (sum_ends 12 u.x) in
    let v = read_sum names line (sum_end 12 u.x + 1 + 2 + 1) y b (subst (λ c. SpellsExpr names line c y b) (omega (arith, here)) right) in
    record {
      said = checks u.x v.x;
      text = check_text x y u.x v.x bytes whole u.text v.text;
      fine = (u.fine, v.fine);
      reads = ap (form_of names (at line 5)) (out-Assert _) ∙ ap (keeping names) (checked names line u.x v.x a b u.reads v.reads) ∙ ap (λ c. Ok (stmt_at line (Check (equation_at (at line (c + 1)) a b)), names)) (sym here) ∙ ap (λ t. Ok (t, names)) (sym is) ∙ ap (λ t. Ok (s, t)) (sym same);
    }
read_stmt names line bytes s after (spells_print x e whole spelled is same) =
    let given = read_sum names line 11 x e spelled in
    record {
      said = prints given.x;
      text = print_text x given.x bytes whole given.text;
      fine = given.fine;
      reads = ap (form_of names (at line 5)) (out-Eval _) ∙ ap (keeping names) (printed names line given.x e given.reads) ∙ ap (λ t. Ok (t, names)) (sym is) ∙ ap (λ t. Ok (s, t)) (sym same);
    }
