use Rattle.std.proofs.Common.{◌≡◌, List, [], ◌∷◌, ◌++◌, length, ap, sym, subst, ◌∙◌, arith, rules}
use Rattle.py_base.specs.declared.Place.{Place}
use Rattle.py_tokens.specs.declared.Token.{Token}
use Rattle.py_tokens.specs.declared.TokenForm.TheVariants as forms
use Rattle.py_tokens.specs.declared.Keyword.TheVariants as keys
use Rattle.py_tokens.specs.declared.Mark.TheVariants as marks
use Rattle.raw_syntax.specs.declared.Comparison.TheVariants as compares
use Rattle.raw_syntax.specs.declared.RawExpr.{RawExpr}
use Rattle.py_grammar.specs.Symbols.{Sym, Value, vexpr, vexprs, vlinks, make, neg, un, tail_post, tail_prod, tail_sum, tail_cmp, is_tail, links, tail_and, tail_or, elements, elements_tail}
use Rattle.py_grammar.specs.Makers.{make_binary, make_element, make_link}
use Rattle.py_grammar.specs.Moves.{and_then, next_neg, next_un, next_is, next_elements}
use Rattle.py_grammar.specs.Machine.{run}
use Rattle.expr_parser.specs.Leads.{StartsWith, link_symbols}
use Rattle.expr_parser.proofs.Rows.{row_prod, row_sum, made_binary, row_cmp, row_link, row_is_not, row_is, row_element, made_element, row_last_element, row_element_comma, row_element_stop, short_element, row_dot, row_leaf}
use Rattle.expr_parser.proofs.expr.+parse.Goals as goal
use Rattle.expr_parser.proofs.expr.+parse.Goals.{is_link-in_default-form-via-in-Key+in_default, is_link-in_default-form-via-in_default, more_elements-in-Mark+in-OpenParen-1, more_elements-in-Name-1}

pub product-returns-in-Err-unary-clause-leads : goal.product-returns-in-Err-unary-clause-leads
product-returns-in-Err-unary-clause-leads n c f S V =
    let k = c.in-Some.first.now in
    let sign = c.in-Some-prod_sign.sign in
    c.products.invariant.leads S V
    ∙ ap (λ ts. run ts (tail_prod ∷ S) (vexpr c.products.acc ∷ V)) c.in-Some.ensures
    ∙ row_prod c.in-Some.after.now k S (vexpr c.products.acc ∷ V) sign c.in-Some-prod_sign.ensures
    ∙ c.in-Err-unary.ensures.leads f (make (make_binary k.place sign) ∷ tail_prod ∷ S) (vexpr c.products.acc ∷ V)

pub product-products-preserved : goal.product-products-preserved
product-products-preserved n c =
    let k = c.in-Some.first.now in
    let sign = c.in-Some-prod_sign.sign in
    let x = c.in-Ok-unary.x in
    let long = ap length c.in-Some.ensures in record {
      shorter = omega (arith, c.products.invariant.shorter, c.in-Ok-unary.ensures.shorter, long);
      leads = λ S V. c.products.invariant.leads S V
          ∙ ap (λ ts. run ts (tail_prod ∷ S) (vexpr c.products.acc ∷ V)) c.in-Some.ensures
          ∙ row_prod c.in-Some.after.now k S (vexpr c.products.acc ∷ V) sign c.in-Some-prod_sign.ensures
          ∙ c.in-Ok-unary.ensures.leads (make (make_binary k.place sign) ∷ tail_prod ∷ S) (vexpr c.products.acc ∷ V)
          ∙ made_binary x.1.now (tail_prod ∷ S) V k.place sign c.products.acc x.0
          ∙ ap (λ e. run x.1.now (tail_prod ∷ S) (vexpr e ∷ V)) (sym c.in_ok-acc.ensures);
    }

pub sum-returns-in-Err-product-clause-leads : goal.sum-returns-in-Err-product-clause-leads
sum-returns-in-Err-product-clause-leads n c f S V =
    let k = c.in-Some.first.now in
    let sign = c.in-Some-sum_sign.sign in
    c.sums.invariant.leads S V
    ∙ ap (λ ts. run ts (tail_sum ∷ S) (vexpr c.sums.acc ∷ V)) c.in-Some.ensures
    ∙ row_sum c.in-Some.after.now k S (vexpr c.sums.acc ∷ V) sign c.in-Some-sum_sign.ensures
    ∙ c.in-Err-product.ensures.leads f (make (make_binary k.place sign) ∷ tail_sum ∷ S) (vexpr c.sums.acc ∷ V)

pub sum-sums-preserved : goal.sum-sums-preserved
sum-sums-preserved n c =
    let k = c.in-Some.first.now in
    let sign = c.in-Some-sum_sign.sign in
    let x = c.in-Ok-product.x in
    let long = ap length c.in-Some.ensures in record {
      shorter = omega (arith, c.sums.invariant.shorter, c.in-Ok-product.ensures.shorter, long);
      leads = λ S V. c.sums.invariant.leads S V
          ∙ ap (λ ts. run ts (tail_sum ∷ S) (vexpr c.sums.acc ∷ V)) c.in-Some.ensures
          ∙ row_sum c.in-Some.after.now k S (vexpr c.sums.acc ∷ V) sign c.in-Some-sum_sign.ensures
          ∙ c.in-Ok-product.ensures.leads (make (make_binary k.place sign) ∷ tail_sum ∷ S) (vexpr c.sums.acc ∷ V)
          ∙ made_binary x.1.now (tail_sum ∷ S) V k.place sign c.sums.acc x.0
          ∙ ap (λ e. run x.1.now (tail_sum ∷ S) (vexpr e ∷ V)) (sym c.in_ok-acc.ensures);
    }

pub comparison-returns-in-Err-linked-clause-leads : goal.comparison-returns-in-Err-linked-clause-leads
comparison-returns-in-Err-linked-clause-leads n c f S V =
    let k = c.in-Some.first.now in
    let x = c.in-Ok.x in
    let sign = c.in-Some-link_sign.sign in
    c.in-Ok.ensures.leads (tail_cmp ∷ S) V
    ∙ ap (λ ts. run ts (tail_cmp ∷ S) (vexpr x.0 ∷ V)) c.in-Some.ensures
    ∙ row_cmp c.in-Some.after.now k S (vexpr x.0 ∷ V) sign c.in-Some-link_sign.ensures
    ∙ ap (λ l. run c.in-Some.after.now (link_symbols k.place sign ++ S) (vlinks l ∷ vexpr x.0 ∷ V)) (sym c.new-list.ensures)
    ∙ c.in-Err-linked.ensures.leads f S (vexpr x.0 ∷ V)

pub comparison-returns-in-Err-linked-2-clause-leads : goal.comparison-returns-in-Err-linked-2-clause-leads
comparison-returns-in-Err-linked-2-clause-leads n c f S V =
    let x = c.in-Ok.x in
    c.links.invariant.leads S V
    ∙ ap (λ ts. run ts (links ∷ S) (vlinks c.links.list ∷ vexpr x.0 ∷ V)) c.in-Some-split.ensures
    ∙ row_link c.in-Some-split.after.now c.in-Some-split.head.now S (vlinks c.links.list ∷ vexpr x.0 ∷ V) c.in-Some-link_sign-2.sign c.in-Some-link_sign-2.ensures
    ∙ c.in-Err-linked-2.ensures.leads f S (vexpr x.0 ∷ V)

pub comparison-links-preserved : goal.comparison-links-preserved
comparison-links-preserved n c =
    let x = c.in-Ok.x in
    let long = ap length c.in-Some-split.ensures in record {
      shorter = omega (arith, c.links.invariant.shorter, c.in-Ok-linked-2.ensures.shorter, long);
      begins = c.in-Ok-linked-2.ensures.more c.in-Some.first.now.place c.links.invariant.begins;
      leads = λ S V. c.links.invariant.leads S V
          ∙ ap (λ ts. run ts (links ∷ S) (vlinks c.links.list ∷ vexpr x.0 ∷ V)) c.in-Some-split.ensures
          ∙ row_link c.in-Some-split.after.now c.in-Some-split.head.now S (vlinks c.links.list ∷ vexpr x.0 ∷ V) c.in-Some-link_sign-2.sign c.in-Some-link_sign-2.ensures
          ∙ c.in-Ok-linked-2.ensures.leads S (vexpr x.0 ∷ V);
    }

pub is_link-returns-in-Err-clause-leads : goal.is_link-returns-in-Err-clause-leads
is_link-returns-in-Err-clause-leads n c f S V =
    let form : c.in-Some.first.now.form ≡ forms.Key keys.Not = search rules in
    ap (λ ts. run ts (is_tail c.args.place ∷ S) (vlinks c.args.list.now ∷ V)) c.in-Some.ensures
    ∙ row_is_not c.in-Some.after.now c.in-Some.first.now S (vlinks c.args.list.now ∷ V) c.args.place form
    ∙ c.in-Err.ensures.leads f S V

pub is_link-returns-in-Err-plain_link-clause-leads : goal.is_link-returns-in-Err-plain_link-clause-leads
is_link-returns-in-Err-plain_link-clause-leads n c f S V =
    let k = c.in-Some.first.now in
    let move : next_is c.args.place k.place k.form ≡ and_then (next_un k.place k.form) (tail_prod ∷ tail_sum ∷ make (make_link c.args.place compares.Is) ∷ links ∷ []) = elim c.in_default-form.branch [
      | is_link-in_default-form-via-in-Key+in_default w ↦ search rules
      | is_link-in_default-form-via-in_default w ↦ search rules
    ] in
    ap (λ ts. run ts (is_tail c.args.place ∷ S) (vlinks c.args.list.now ∷ V)) c.in-Some.ensures
    ∙ row_is c.in-Some.after.now k S (vlinks c.args.list.now ∷ V) c.args.place move
    ∙ ap (λ ts. run ts (un ∷ tail_prod ∷ tail_sum ∷ make (make_link c.args.place compares.Is) ∷ links ∷ S) (vlinks c.args.list.now ∷ V)) (sym c.in-Some.ensures)
    ∙ c.in-Err-plain_link.ensures.leads f S V

pub linked-returns-in-Err-plain_link-clause-leads : goal.linked-returns-in-Err-plain_link-clause-leads
linked-returns-in-Err-plain_link-clause-leads n c f S V =
    ap (λ s. run c.args.ts.now (link_symbols c.args.place s ++ S) (vlinks c.args.list.now ∷ V)) c.in-Plain.is
    ∙ c.in-Err-plain_link.ensures.leads f S V

pub post-returns-in-Err-clause-leads : goal.post-returns-in-Err-clause-leads
post-returns-in-Err-clause-leads n c f S V =
    let form : c.in-Some.first.now.form ≡ forms.Mark marks.Dot = search rules in
    c.posts.invariant.leads S V
    ∙ ap (λ ts. run ts (tail_post ∷ S) (vexpr c.posts.acc ∷ V)) c.in-Some.ensures
    ∙ row_dot c.in-Some.after.now c.in-Some.first.now S (vexpr c.posts.acc ∷ V) form
    ∙ c.in-Err.ensures.leads f (tail_post ∷ S) V

pub unary-returns-in-Err-post-2-clause-leads : goal.unary-returns-in-Err-post-2-clause-leads
unary-returns-in-Err-post-2-clause-leads n c f S V =
    let k = c.in-Some.first.now in
    ap (λ ts. run ts (un ∷ S) V) c.in-Some.ensures
    ∙ row_leaf c.in-Some.after.now k S V c.in-Leaf.e (subst (λ s. StartsWith s k.place k.form) c.in-Leaf.is c.in_ok-operand_start.ensures)
    ∙ c.in-Err-post-2.ensures.leads f S V

-- what the machine does up to the token behind an element
upto : (ts rest after behind : List Token) (head : Token) (q : Place) (first e : RawExpr) (list pushed : List RawExpr)
    → ((S : List Sym) (V : List Value) → run ts (elements q ∷ S) (vexprs (first ∷ []) ∷ V) ≡ run rest (elements q ∷ S) (vexprs list ∷ V))
    → rest ≡ head ∷ after
    → next_elements q head.place head.form ≡ and_then (next_neg head.place head.form) (tail_and ∷ tail_or ∷ make make_element ∷ elements_tail q ∷ [])
    → ((S : List Sym) (V : List Value) → run rest (neg ∷ tail_and ∷ tail_or ∷ S) V ≡ run behind S (vexpr e ∷ V))
    → pushed ≡ list ++ e ∷ []
    → (S : List Sym) (V : List Value) → run ts (elements q ∷ S) (vexprs (first ∷ []) ∷ V) ≡ run behind (elements_tail q ∷ S) (vexprs pushed ∷ V)
upto ts rest after behind head q first e list pushed leads is move read more S V =
    leads S V
    ∙ ap (λ us. run us (elements q ∷ S) (vexprs list ∷ V)) is
    ∙ row_element after head S (vexprs list ∷ V) q move
    ∙ ap (λ us. run us (neg ∷ tail_and ∷ tail_or ∷ make make_element ∷ elements_tail q ∷ S) (vexprs list ∷ V)) (sym is)
    ∙ read (make make_element ∷ elements_tail q ∷ S) (vexprs list ∷ V)
    ∙ made_element behind (elements_tail q ∷ S) V list e
    ∙ ap (λ us. run behind (elements_tail q ∷ S) (vexprs us ∷ V)) (sym more)

pub more_elements-returns-in_default-split-clause-leads : goal.more_elements-returns-in_default-split-clause-leads
more_elements-returns-in_default-split-clause-leads n c f S V =
    let k = c.in-Some.head.now in
    let move : next_elements c.args.place k.place k.form ≡ and_then (next_neg k.place k.form) (tail_and ∷ tail_or ∷ make make_element ∷ elements_tail c.args.place ∷ []) = elim c.match-head.branch [
      | more_elements-in-Mark+in-OpenParen-1 w ↦ search rules
      | more_elements-in-Name-1 w ↦ search rules
    ] in
    let pushed = c.push_element.new.elements in
    upto c.args.ts.now c.list.rest.now c.in-Some.after.now c.in-Ok.x.1.now c.in-Some.head.now c.args.place c.args.first c.in-Ok.x.0 c.list.list pushed c.list.invariant.leads c.in-Some.ensures move c.in-Ok.ensures.leads c.in_ok-push_element.ensures.ok S V
    ∙ ap (λ us. run us (elements_tail c.args.place ∷ S) (vexprs pushed ∷ V)) c.in_default-split.ensures
    ∙ short_element S (vexprs pushed ∷ V) c.args.place

pub more_elements-returns-in-Close-clause-leads : goal.more_elements-returns-in-Close-clause-leads
more_elements-returns-in-Close-clause-leads n c S V =
    let k = c.in-Some.head.now in
    let move : next_elements c.args.place k.place k.form ≡ and_then (next_neg k.place k.form) (tail_and ∷ tail_or ∷ make make_element ∷ elements_tail c.args.place ∷ []) = elim c.match-head.branch [
      | more_elements-in-Mark+in-OpenParen-1 w ↦ search rules
      | more_elements-in-Name-1 w ↦ search rules
    ] in
    let pushed = c.push_element.new.elements in
    upto c.args.ts.now c.list.rest.now c.in-Some.after.now c.in-Ok.x.1.now c.in-Some.head.now c.args.place c.args.first c.in-Ok.x.0 c.list.list pushed c.list.invariant.leads c.in-Some.ensures move c.in-Ok.ensures.leads c.in_ok-push_element.ensures.ok S V
    ∙ ap (λ us. run us (elements_tail c.args.place ∷ S) (vexprs pushed ∷ V)) c.in-Some-split.ensures
    ∙ row_last_element c.in-Some-split.after.now c.in-Some-split.second.now S V c.args.place pushed c.in-Close.ensures
    ∙ ap (λ e. run c.in-Some-split.after.now S (vexpr e ∷ V)) (sym c.tuple_node-in-Close.ensures)

pub more_elements-returns-in-Other-clause-leads : goal.more_elements-returns-in-Other-clause-leads
more_elements-returns-in-Other-clause-leads n c f S V =
    let k = c.in-Some.head.now in
    let move : next_elements c.args.place k.place k.form ≡ and_then (next_neg k.place k.form) (tail_and ∷ tail_or ∷ make make_element ∷ elements_tail c.args.place ∷ []) = elim c.match-head.branch [
      | more_elements-in-Mark+in-OpenParen-1 w ↦ search rules
      | more_elements-in-Name-1 w ↦ search rules
    ] in
    let pushed = c.push_element.new.elements in
    upto c.args.ts.now c.list.rest.now c.in-Some.after.now c.in-Ok.x.1.now c.in-Some.head.now c.args.place c.args.first c.in-Ok.x.0 c.list.list pushed c.list.invariant.leads c.in-Some.ensures move c.in-Ok.ensures.leads c.in_ok-push_element.ensures.ok S V
    ∙ ap (λ us. run us (elements_tail c.args.place ∷ S) (vexprs pushed ∷ V)) c.in-Some-split.ensures
    ∙ row_element_stop c.in-Some-split.after.now c.in-Some-split.second.now S (vexprs pushed ∷ V) c.args.place c.in-Other.ensures

pub more_elements-list-preserved : goal.more_elements-list-preserved
more_elements-list-preserved n c =
    let k = c.in-Some.head.now in
    let move : next_elements c.args.place k.place k.form ≡ and_then (next_neg k.place k.form) (tail_and ∷ tail_or ∷ make make_element ∷ elements_tail c.args.place ∷ []) = elim c.match-head.branch [
      | more_elements-in-Mark+in-OpenParen-1 w ↦ search rules
      | more_elements-in-Name-1 w ↦ search rules
    ] in
    let pushed = c.push_element.new.elements in
    let long = ap length c.in-Some-split.ensures in record {
      shorter = omega (arith, c.list.invariant.shorter, c.in-Ok.ensures.shorter, long);
      leads = λ S V.
          upto c.args.ts.now c.list.rest.now c.in-Some.after.now c.in-Ok.x.1.now c.in-Some.head.now c.args.place c.args.first c.in-Ok.x.0 c.list.list pushed c.list.invariant.leads c.in-Some.ensures move c.in-Ok.ensures.leads c.in_ok-push_element.ensures.ok S V
          ∙ ap (λ us. run us (elements_tail c.args.place ∷ S) (vexprs pushed ∷ V)) c.in-Some-split.ensures
          ∙ row_element_comma c.in-Some-split.after.now c.in-Some-split.second.now S (vexprs pushed ∷ V) c.args.place c.in-Comma.ensures;
    }
