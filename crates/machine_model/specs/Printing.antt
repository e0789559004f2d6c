-- What `print` writes (Standard Library reference, `print`): the texts of its arguments with one space between. A whole number is decimal, and a truth value is `True` or `False`.
use Rattle.std.specs.Prelude.{ℕ, List, [], ◌∷◌, ◌++◌, codes, if◌then◌else◌}
use Rattle.std.specs.Fmt.{signed_decimal}
use Rattle.py_syntax.specs.declared.Value.{Value}
use Rattle.py_syntax.specs.declared.Value.TheVariants.{Num, Truth, Nil, Ref}
use Rattle.py_syntax.specs.declared.PrintArg.{PrintArg}
use Rattle.py_syntax.specs.declared.PrintArg.TheVariants as arg

-- the text of a value that `print` takes
abbrev pub text_of : Value → List ℕ
text_of (Num z) = signed_decimal z
text_of (Truth b) = if b then codes "True" else codes "False"
text_of Nil = []
text_of (Ref r) = []

-- the texts of the arguments, whose values are these
abbrev pub texts_of : List PrintArg → List Value → List (List ℕ)
texts_of [] vs = []
texts_of (arg.Literal text ∷ args) vs = text ∷ texts_of args vs
texts_of (arg.Value e ∷ args) (v ∷ vs) = text_of v ∷ texts_of args vs
texts_of (arg.Value e ∷ args) [] = []

-- texts with one space between
abbrev pub spaced : List (List ℕ) → List ℕ
spaced [] = []
spaced (text ∷ []) = text
spaced (text ∷ more ∷ texts) = text ++ codes " " ++ spaced (more ∷ texts)

abbrev pub printed : List PrintArg → List Value → List ℕ
printed args vs = spaced (texts_of args vs)
