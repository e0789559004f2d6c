-- The lines of a small text are rows, and its module is what their tree says.
use Rattle.std.proofs.Common.{◌≡◌, inl, inr, refl, sym, ap, subst, ◌∙◌, ℕ, suc, ◌+◌, ◌≤◌, ◌<◌, Bool, if◌then◌else◌, List, [], ◌∷◌, ◌++◌, map, length, length-append, append_assoc, append-nil, Ok, Err, All, arith, lt-ltb}
use Rattle.std.proofs.lemmas.List.{length-map}
use Rattle.std.proofs.lemmas.List.Elements.{All-nil, All-cons}
use Rattle.py_syntax.specs.declared.Stmt.{Stmt}
use Rattle.py_syntax.specs.declared.Module.{Module}
use Rattle.raw_syntax.specs.declared.RawStmt.{RawStmt}
use Rattle.small_module.specs.SmallTree.{◌>>=◌}
use Rattle.small_module.specs.SmallModule.{main_module, stmt_of, body_of, with_count, last_item, module_of}
use Rattle.small_text.specs.SmallText.{SpellsBody, SpellsMain, SpellsFrom}
use Rattle.small_text.proofs.LineBits.{Row, blank, remark, head, says, row_text, at}
use Rattle.small_text.proofs.SmallRows.{IsPassed, IsBody}
use Rattle.small_text.proofs.SmallTokens.{SaysSome}
use Rattle.small_text.proofs.SmallTrees.{said_stmt, stmts_of, small_tree}
use Rattle.small_text.proofs.PassedLines.{PassedRow, passed_row}
use Rattle.small_text.proofs.ReadStmts.{ReadStmt, read_stmt}

-- the rows of lines behind the head
pub record ReadBody (names : List (List ℕ)) (n : ℕ) (lines : List (List ℕ)) (ss : List Stmt) (after : List (List ℕ)) : Type 0 where
  pub rows : List Row
  pub text : lines ≡ map row_text rows
  pub fine : All IsBody rows
  pub some : 1 ≤ length ss → SaysSome rows
  pub count : length (stmts_of n rows) ≡ length ss
  pub reads : (before : List Stmt) → length before + length ss ≤ 60 → body_of before names (stmts_of n rows) ≡ Ok (before ++ ss, after)

passed_body : (r : Row) → IsPassed r → IsBody r
passed_body (blank n) h = h
passed_body (remark n text) h = h
passed_body head h = absurd h
passed_body (says s) h = absurd h

passed_stmts : (n : ℕ) (r : Row) (rows : List Row) → IsPassed r → stmts_of n (r ∷ rows) ≡ stmts_of (n + 1) rows
passed_stmts n (blank k) rows h = refl
passed_stmts n (remark k text) rows h = refl
passed_stmts n head rows h = absurd h
passed_stmts n (says s) rows h = absurd h

said_behind : (r : Row) (rows : List Row) → SaysSome rows → SaysSome (r ∷ rows)
said_behind (blank n) rows h = h
said_behind (remark n text) rows h = h
said_behind head rows h = h
said_behind (says s) rows h = tt

cons_text : (line : List ℕ) (lines : List (List ℕ)) (r : Row) (rows : List Row) → line ≡ row_text r → lines ≡ map row_text rows → line ∷ lines ≡ map row_text (r ∷ rows)
cons_text line lines r rows first more = ap (λ t. t ∷ lines) first ∙ ap (λ ts. row_text r ∷ ts) more

pass_line : (names : List (List ℕ)) (n : ℕ) (line : List ℕ) (lines : List (List ℕ)) (ss : List Stmt) (after : List (List ℕ)) → PassedRow line → ReadBody names (n + 1) lines ss after → ReadBody names n (line ∷ lines) ss after
pass_line names n line lines ss after r rest =
    let stmts = passed_stmts n r.row rest.rows r.fine in
    record {
      rows = r.row ∷ rest.rows;
      text = cons_text line lines r.row rest.rows r.text rest.text;
      fine = All-cons IsBody r.row rest.rows (passed_body r.row r.fine) rest.fine;
      some = λ h. said_behind r.row rest.rows (rest.some h);
      count = ap length stmts ∙ rest.count;
      reads = λ before few. ap (body_of before names) stmts ∙ rest.reads before few;
    }

-- a statement that is built, with the names behind it
one_more : (before : List Stmt) (names mid : List (List ℕ)) (s : RawStmt) (ss : List RawStmt) (x : Stmt) → length before < 60 → stmt_of names s ≡ Ok (x, mid) → body_of before names (s ∷ ss) ≡ body_of (before ++ x ∷ []) mid ss
one_more before names mid s ss x few is =
    ap (λ (b : Bool). if b then (stmt_of names s >>= λ r. body_of (before ++ r.0 ∷ []) r.1 ss) else Err s.place) (lt-ltb (length before) 60 few)
    ∙ ap (λ r. r >>= λ r. body_of (before ++ r.0 ∷ []) r.1 ss) is

said_line : (names mid : List (List ℕ)) (n : ℕ) (line : List ℕ) (lines : List (List ℕ)) (s : Stmt) (ss : List Stmt) (after : List (List ℕ)) → ReadStmt names n line s mid → ReadBody mid (n + 1) lines ss after → ReadBody names n (line ∷ lines) (s ∷ ss) after
said_line names mid n line lines s ss after r rest =
    record {
      rows = says r.said ∷ rest.rows;
      text = cons_text line lines (says r.said) rest.rows r.text rest.text;
      fine = All-cons IsBody (says r.said) rest.rows r.fine rest.fine;
      some = λ h. tt;
      count = ap suc rest.count;
      reads = λ before few.
          one_more before names mid (said_stmt n r.said) (stmts_of (n + 1) rest.rows) s (omega (arith, few)) r.reads
          ∙ rest.reads (before ++ s ∷ []) (omega (arith, few, length-append before (s ∷ [])))
          ∙ ap (λ ts. Ok (ts, after)) (append_assoc before (s ∷ []) ss);
    }

read_body : (names : List (List ℕ)) (n : ℕ) (lines : List (List ℕ)) (ss : List Stmt) (after : List (List ℕ)) → SpellsBody names n lines ss after → ReadBody names n lines ss after
read_body names n [] [] after h = record {
  rows = [];
  text = refl;
  fine = All-nil IsBody;
  some = λ h. absurd (omega (arith, h));
  count = refl;
  reads = λ before few. ap (λ ts. Ok (ts, names)) (sym (append-nil before)) ∙ ap (λ t. Ok (before ++ [], t)) (sym h);
}
read_body names n [] (s ∷ ss) after h = absurd h
read_body names n (line ∷ lines) [] after h = pass_line names n line lines [] after (passed_row line h.0) (read_body names (n + 1) lines [] after h.1)
read_body names n (line ∷ lines) (s ∷ ss) after (inl h) = pass_line names n line lines (s ∷ ss) after (passed_row line h.0) (read_body names (n + 1) lines (s ∷ ss) after h.1)
read_body names n (line ∷ lines) (s ∷ ss) after (inr h) = said_line names h.1 n line lines s ss after (read_stmt names n line s h.1 h.2) (read_body h.1 (n + 1) lines ss after h.3)

-- the rows of a small text whose first line has this number, and what the tree of these rows says
pub record ReadLines (n : ℕ) (lines : List (List ℕ)) (m : Module) : Type 0 where
  pub skips : List Row
  pub rows : List Row
  pub text : lines ≡ map row_text (skips ++ head ∷ rows)
  pub passed : All IsPassed skips
  pub fine : All IsBody rows
  pub some : SaysSome rows
  pub few : length (stmts_of (n + length skips + 1) rows) ≤ 60
  pub reads : module_of (small_tree (n + length skips) rows) ≡ Ok m

read_main : (n : ℕ) (line : List ℕ) (lines : List (List ℕ)) (m : Module) → SpellsMain n line lines m → ReadLines n (line ∷ lines) m
read_main n line lines m h =
    let body = read_body [] (n + 1) lines h.body h.names h.spelled in
    let same_end : n + 1 + length body.rows ≡ n + 1 + length lines = omega (arith, ap length body.text, length-map body.rows row_text) in
    let whole : List Stmt → ℕ → ℕ → Module = λ ss k last. main_module (at n 5) k ss (at last 1) in
    let said : module_of (small_tree n body.rows) ≡ Ok m =
    ap (λ r. with_count r >>= (λ r. Ok (whole r.0 r.1 (n + 1 + length body.rows))) >>= last_item []) (body.reads [] (omega (arith, h.few)))
    ∙ ap (λ last. Ok (whole h.body (length h.names) last)) same_end
    ∙ ap (λ t. Ok t) (sym h.is) in
    let none : n ≡ n + length {A = Row} [] = omega arith in
    let few : length (stmts_of (n + 1) body.rows) ≤ 60 = omega (arith, body.count, h.few) in
    record {
      skips = [];
      rows = body.rows;
      text = cons_text line lines head body.rows h.head body.text;
      passed = All-nil IsPassed;
      fine = body.fine;
      some = body.some h.some;
      few = subst (λ k. length (stmts_of (k + 1) body.rows) ≤ 60) none few;
      reads = subst (λ k. module_of (small_tree k body.rows) ≡ Ok m) none said;
    }

-- a line that is passed over in front
pass_front : (n : ℕ) (line : List ℕ) (lines : List (List ℕ)) (m : Module) → PassedRow line → ReadLines (n + 1) lines m → ReadLines n (line ∷ lines) m
pass_front n line lines m r rest =
    let here : n + 1 + length rest.skips ≡ n + length (r.row ∷ rest.skips) = omega arith in
    record {
      skips = r.row ∷ rest.skips;
      rows = rest.rows;
      text = cons_text line lines r.row (rest.skips ++ head ∷ rest.rows) r.text rest.text;
      passed = All-cons IsPassed r.row rest.skips r.fine rest.passed;
      fine = rest.fine;
      some = rest.some;
      few = subst (λ k. length (stmts_of (k + 1) rest.rows) ≤ 60) here rest.few;
      reads = subst (λ k. module_of (small_tree k rest.rows) ≡ Ok m) here rest.reads;
    }

pub read_lines : (n : ℕ) (lines : List (List ℕ)) (m : Module) → SpellsFrom n lines m → ReadLines n lines m
read_lines n [] m h = absurd h
read_lines n (line ∷ lines) m (inl h) = pass_front n line lines m (passed_row line h.0) (read_lines (n + 1) lines m h.1)
read_lines n (line ∷ lines) m (inr h) = read_main n line lines m h
