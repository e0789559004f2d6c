use Rattle.std.proofs.Common.{◌≡◌, ◌≤◌, List, [], ◌∷◌, length, ◌+◌, ◌*◌}
use Rattle.py_grammar.specs.Symbols.{Sym, Value, vstmts, velifs, vhandlers, stmts, elifs, handlers}
use Rattle.py_grammar.specs.Machine.{run}
use Rattle.py_parser.proofs.block.+block.Given as goal

abbrev pub decreases-block : goal.decreases-block
decreases-block l = length l.ts.now * 32 + 0

abbrev pub decreases-headed : goal.decreases-headed
decreases-headed l = length l.ts.now * 32 + 1

abbrev pub decreases-body : goal.decreases-body
decreases-body l = length l.ts.now * 32 + 0

abbrev pub decreases-suite : goal.decreases-suite
decreases-suite l = length l.ts.now * 32 + 0

abbrev pub decreases-stmt : goal.decreases-stmt
decreases-stmt l = length l.ts.now * 32 + 1

abbrev pub decreases-more : goal.decreases-more
decreases-more l = length l.ts.now * 32 + 2

abbrev pub decreases-while_of : goal.decreases-while_of
decreases-while_of l = length l.ts.now * 32 + 2

abbrev pub decreases-with_of : goal.decreases-with_of
decreases-with_of l = length l.ts.now * 32 + 2

abbrev pub decreases-if_of : goal.decreases-if_of
decreases-if_of l = length l.ts.now * 32 + 2

abbrev pub decreases-elif_onto : goal.decreases-elif_onto
decreases-elif_onto l = length l.ts.now * 32 + 2

abbrev pub decreases-elif_parts : goal.decreases-elif_parts
decreases-elif_parts l = length l.ts.now * 32 + 3

abbrev pub decreases-else_block : goal.decreases-else_block
decreases-else_block l = length l.ts.now * 32 + 1

abbrev pub decreases-finally_block : goal.decreases-finally_block
decreases-finally_block l = length l.ts.now * 32 + 1

abbrev pub decreases-handler_onto : goal.decreases-handler_onto
decreases-handler_onto l = length l.ts.now * 32 + 1

abbrev pub decreases-more_handlers : goal.decreases-more_handlers
decreases-more_handlers l = length l.ts.now * 32 + 2

abbrev pub decreases-all_handlers : goal.decreases-all_handlers
decreases-all_handlers l = length l.ts.now * 32 + 2

abbrev pub decreases-caught : goal.decreases-caught
decreases-caught l = length l.ts.now * 32 + 3

abbrev pub decreases-uncaught : goal.decreases-uncaught
decreases-uncaught l = length l.ts.now * 32 + 1

abbrev pub decreases-ended : goal.decreases-ended
decreases-ended l = length l.ts.now * 32 + 4

abbrev pub decreases-try_of : goal.decreases-try_of
decreases-try_of l = length l.ts.now * 32 + 5

abbrev pub invariant-more-list : goal.invariant-more-list
invariant-more-list l = record { shorter : length l.rest ≤ length l.fn.ts; leads : (S : List Sym) (V : List Value) → run l.fn.ts (stmts ∷ S) (vstmts l.fn.before ∷ V) ≡ run l.rest (stmts ∷ S) (vstmts l.list ∷ V) }

abbrev pub decreases-more-list : goal.decreases-more-list
decreases-more-list l = length l.rest

abbrev pub invariant-elif_parts-parts : goal.invariant-elif_parts-parts
invariant-elif_parts-parts l = record { shorter : length l.rest ≤ length l.fn.ts; leads : (S : List Sym) (V : List Value) → run l.fn.ts (elifs ∷ S) (velifs [] ∷ V) ≡ run l.rest (elifs ∷ S) (velifs l.parts ∷ V) }

abbrev pub decreases-elif_parts-parts : goal.decreases-elif_parts-parts
decreases-elif_parts-parts l = length l.rest

abbrev pub invariant-more_handlers-list : goal.invariant-more_handlers-list
invariant-more_handlers-list l = record { shorter : length l.rest ≤ length l.fn.ts; leads : (S : List Sym) (V : List Value) → run l.fn.ts (handlers ∷ S) (vhandlers l.fn.before ∷ V) ≡ run l.rest (handlers ∷ S) (vhandlers l.list ∷ V) }

abbrev pub decreases-more_handlers-list : goal.decreases-more_handlers-list
decreases-more_handlers-list l = length l.rest
