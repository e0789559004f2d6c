use Rattle.std.proofs.Common.{◌≡◌, All, take}
use Rattle.py_tokens.specs.WordForms.{keyword_text}
use Rattle.py_lexer.proofs.words.spelled.Given as goal

abbrev pub invariant-loop-keyword : goal.invariant-loop-keyword
invariant-loop-keyword l = All (λ keyword. ¬ (l.word ≡ keyword_text keyword)) (take l.keyword-index l.keywords)
