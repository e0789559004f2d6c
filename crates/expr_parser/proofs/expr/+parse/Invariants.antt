use Rattle.std.proofs.Common.{◌≡◌, ◌<◌, ◌≤◌, List, [], ◌∷◌, length, ◌+◌, ◌*◌}
use Rattle.py_grammar.specs.Symbols.{Sym, Value, vexpr, vexprs, vargs, vlinks, neg, un, tail_post, tail_prod, tail_sum, tail_cmp, links, tail_and, tail_or, elements, args}
use Rattle.py_grammar.specs.Machine.{run}
use Rattle.expr_parser.specs.Leads.{BeginsWith}
use Rattle.expr_parser.proofs.expr.+parse.Given as goal

abbrev pub decreases-post : goal.decreases-post
decreases-post l = length l.ts.now * 16 + 13

abbrev pub decreases-unary : goal.decreases-unary
decreases-unary l = length l.ts.now * 16 + 1

abbrev pub decreases-product : goal.decreases-product
decreases-product l = length l.ts.now * 16 + 2

abbrev pub decreases-sum : goal.decreases-sum
decreases-sum l = length l.ts.now * 16 + 3

abbrev pub decreases-plain_link : goal.decreases-plain_link
decreases-plain_link l = length l.ts.now * 16 + 4

abbrev pub decreases-is_link : goal.decreases-is_link
decreases-is_link l = length l.ts.now * 16 + 5

abbrev pub decreases-linked : goal.decreases-linked
decreases-linked l = length l.ts.now * 16 + 6

abbrev pub decreases-comparison : goal.decreases-comparison
decreases-comparison l = length l.ts.now * 16 + 7

abbrev pub decreases-negation : goal.decreases-negation
decreases-negation l = length l.ts.now * 16 + 8

abbrev pub decreases-conjunction : goal.decreases-conjunction
decreases-conjunction l = length l.ts.now * 16 + 9

abbrev pub decreases-expression : goal.decreases-expression
decreases-expression l = length l.ts.now * 16 + 10

abbrev pub decreases-arg : goal.decreases-arg
decreases-arg l = length l.ts.now * 16 + 11

abbrev pub decreases-called : goal.decreases-called
decreases-called l = length l.ts.now * 16 + 12

abbrev pub decreases-more_elements : goal.decreases-more_elements
decreases-more_elements l = length l.ts.now * 16 + 12

abbrev pub decreases-bracketed : goal.decreases-bracketed
decreases-bracketed l = length l.ts.now * 16 + 12

abbrev pub invariant-called-list : goal.invariant-called-list
invariant-called-list l = record { shorter : length l.rest ≤ length l.fn.ts; leads : (S : List Sym) (V : List Value) → run l.fn.ts (args ∷ S) (vargs [] ∷ vexpr l.fn.callee ∷ V) ≡ run l.rest (args ∷ S) (vargs l.list ∷ vexpr l.callee ∷ V) }

abbrev pub decreases-called-list : goal.decreases-called-list
decreases-called-list l = length l.rest

abbrev pub invariant-post-posts : goal.invariant-post-posts
invariant-post-posts l = record { shorter : length l.rest ≤ length l.fn.ts; leads : (S : List Sym) (V : List Value) → run l.fn.ts (tail_post ∷ S) (vexpr l.fn.operand ∷ V) ≡ run l.rest (tail_post ∷ S) (vexpr l.acc ∷ V) }

abbrev pub decreases-post-posts : goal.decreases-post-posts
decreases-post-posts l = length l.rest

abbrev pub invariant-more_elements-list : goal.invariant-more_elements-list
invariant-more_elements-list l = record { shorter : length l.rest ≤ length l.fn.ts; leads : (S : List Sym) (V : List Value) → run l.fn.ts (elements l.fn.place ∷ S) (vexprs (l.fn.first ∷ []) ∷ V) ≡ run l.rest (elements l.fn.place ∷ S) (vexprs l.list ∷ V) }

abbrev pub decreases-more_elements-list : goal.decreases-more_elements-list
decreases-more_elements-list l = length l.rest

abbrev pub invariant-product-products : goal.invariant-product-products
invariant-product-products l = record { shorter : length l.rest < length l.fn.ts; leads : (S : List Sym) (V : List Value) → run l.fn.ts (un ∷ tail_prod ∷ S) V ≡ run l.rest (tail_prod ∷ S) (vexpr l.acc ∷ V) }

abbrev pub decreases-product-products : goal.decreases-product-products
decreases-product-products l = length l.rest

abbrev pub invariant-sum-sums : goal.invariant-sum-sums
invariant-sum-sums l = record { shorter : length l.rest < length l.fn.ts; leads : (S : List Sym) (V : List Value) → run l.fn.ts (un ∷ tail_prod ∷ tail_sum ∷ S) V ≡ run l.rest (tail_sum ∷ S) (vexpr l.acc ∷ V) }

abbrev pub decreases-sum-sums : goal.decreases-sum-sums
decreases-sum-sums l = length l.rest

abbrev pub invariant-comparison-links : goal.invariant-comparison-links
invariant-comparison-links l = record { shorter : length l.rest < length l.fn.ts; begins : BeginsWith l.first.place l.list; leads : (S : List Sym) (V : List Value) → run l.fn.ts (un ∷ tail_prod ∷ tail_sum ∷ tail_cmp ∷ S) V ≡ run l.rest (links ∷ S) (vlinks l.list ∷ vexpr l.e ∷ V) }

abbrev pub decreases-comparison-links : goal.decreases-comparison-links
decreases-comparison-links l = length l.rest

abbrev pub invariant-conjunction-ands : goal.invariant-conjunction-ands
invariant-conjunction-ands l = record { shorter : length l.rest < length l.fn.ts; leads : (S : List Sym) (V : List Value) → run l.fn.ts (neg ∷ tail_and ∷ S) V ≡ run l.rest (tail_and ∷ S) (vexpr l.acc ∷ V) }

abbrev pub decreases-conjunction-ands : goal.decreases-conjunction-ands
decreases-conjunction-ands l = length l.rest

abbrev pub invariant-expression-ors : goal.invariant-expression-ors
invariant-expression-ors l = record { shorter : length l.rest < length l.fn.ts; leads : (S : List Sym) (V : List Value) → run l.fn.ts (neg ∷ tail_and ∷ tail_or ∷ S) V ≡ run l.rest (tail_or ∷ S) (vexpr l.acc ∷ V) }

abbrev pub decreases-expression-ors : goal.decreases-expression-ors
decreases-expression-ors l = length l.rest
