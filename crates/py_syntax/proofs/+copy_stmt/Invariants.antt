use Rattle.std.proofs.Common.{◌≡◌, take, ℕ, ◌+◌, ◌*◌, max, Option, Some, None, List}
use denote.Param.Weighed.{most}
use Rattle.py_syntax.specs.declared.stmt.Stmt.{Stmt, size-Stmt}
use Rattle.py_syntax.specs.declared.stmt.StmtForm.{size-StmtForm}
use Rattle.py_syntax.proofs.+copy_stmt.Given as goal

-- the depths of the parts: a block has that of its deepest statement
abbrev block_size : List Stmt → ℕ
block_size = most size-Stmt

abbrev handlers_size : List (ℕ × List Stmt) → ℕ
handlers_size = most (λ h. block_size h.1)

abbrev last_size : Option (List Stmt) → ℕ
last_size None = 0
last_size (Some block) = block_size block

abbrev pub decreases-stmt::Stmt::copy : goal.decreases-stmt::Stmt::copy
decreases-stmt::Stmt::copy l = 4 * size-Stmt l.self.now

abbrev pub decreases-stmt::StmtForm::copy : goal.decreases-stmt::StmtForm::copy
decreases-stmt::StmtForm::copy l = 4 * size-StmtForm l.self.now

abbrev pub decreases-copy::stmt::copy_block : goal.decreases-copy::stmt::copy_block
decreases-copy::stmt::copy_block l = 4 * block_size l.block.now + 1

abbrev pub decreases-copy::stmt::copy_handlers : goal.decreases-copy::stmt::copy_handlers
decreases-copy::stmt::copy_handlers l = 4 * handlers_size l.handlers.now + 2

abbrev pub decreases-copy::stmt::copy_last : goal.decreases-copy::stmt::copy_last
decreases-copy::stmt::copy_last l = 4 * last_size l.last.now + 2

abbrev pub decreases-copy::stmt::copy_if : goal.decreases-copy::stmt::copy_if
decreases-copy::stmt::copy_if l = 4 * max (block_size l.then.now) (block_size l.other.now) + 2

abbrev pub decreases-copy::stmt::copy_loop : goal.decreases-copy::stmt::copy_loop
decreases-copy::stmt::copy_loop l = 4 * block_size l.body.now + 2

abbrev pub decreases-copy::stmt::copy_with : goal.decreases-copy::stmt::copy_with
decreases-copy::stmt::copy_with l = 4 * block_size l.body.now + 2

abbrev pub decreases-copy::stmt::copy_try : goal.decreases-copy::stmt::copy_try
decreases-copy::stmt::copy_try l = 4 * max (block_size l.body.now) (max (handlers_size l.handlers.now) (max (block_size l.other.now) (last_size l.last.now))) + 3

abbrev pub invariant-copy::stmt::copy_block-loop-s : goal.invariant-copy::stmt::copy_block-loop-s
invariant-copy::stmt::copy_block-loop-s l = l.copy ≡ take l.s-index l.s-items

abbrev pub invariant-copy::stmt::copy_handlers-loop-class : goal.invariant-copy::stmt::copy_handlers-loop-class
invariant-copy::stmt::copy_handlers-loop-class l = l.copy ≡ take l.class-index l.class-items
