-- The numbers and the symbols of a term.
use Rattle.std.specs.Prelude.{ℕ, ◌+◌, ◌==◌, nat_le, if◌then◌else◌, Bool, ℤ, pos, ◌+ℤ◌, ◌-ℤ◌, ◌*ℤ◌, List, [], ◌∷◌, All, Contains, FitsSigned}
use Rattle.std.specs.Int.{w128, int_wrap}
use Rattle.std.specs.Ordering.{int_eq}
use Rattle.terms.specs.declared.Term.{Term, Term-F, Sym, fold-Term}
use Rattle.terms.specs.Forms.{Form, form_of}
use Rattle.terms.specs.Within.{terms_within}
use Rattle.proof_checker.specs.declared.replies.Figure.{Figure}
use Rattle.proof_checker.specs.declared.replies.Figure.TheVariants.{Coefficient, Units}
use Rattle.proof_checker.specs.declared.replies.Query.{Query}
use Rattle.proof_checker.specs.declared.replies.Query.TheVariants as query
use Rattle.proof_checker.specs.declared.replies.Reply.{Reply}
use Rattle.proof_checker.specs.declared.replies.Reply.TheVariants as reply
use Rattle.proof_checker.specs.declared.figures.Pending.{Pending, fold-Pending}
use Rattle.proof_checker.specs.declared.figures.Pending.TheOpen.{Pending-F}
use Rattle.proof_checker.specs.Replacing.{put}
use Rattle.proof_checker.specs.Views.{Change, node_term, node_weight}

-- the number of a linear form
abbrev pub asked : Figure → Form → ℤ
asked (Coefficient v) f = f.coefs v
asked Units f = f.units

-- that number of the linear form of a term, and of each term within it, is within 128 bits
pub record FigureFits (q : Figure) (t : Term) : Type 0 where
  pub within : All (λ u. FitsSigned w128 (asked q (form_of u))) (terms_within t)

-- the number symbol stands in the term
abbrev pub HasSymbol : ℕ → Term → Type 0
HasSymbol v t = Contains (terms_within t) (Sym v)

-- a number fits in both terms, and so does the difference
pub record BothFit (q : Figure) (a b : Term) : Type 0 where
  pub left : FigureFits q a
  pub right : FigureFits q b
  pub difference : FitsSigned w128 (asked q (form_of a) -ℤ asked q (form_of b))

-- the coefficients of two terms fit at the symbols of a third
abbrev pub FitAtSymbols : Term → Term → Term → Type 0
FitAtSymbols t a b = (v : ℕ) → HasSymbol v t → BothFit (Coefficient v) a b

-- whether a number is within 128 bits
abbrev pub is_narrow : ℤ → Bool
is_narrow z = int_eq (int_wrap w128 z) z

abbrev pub checked : ℤ → Reply
checked z = if is_narrow z then reply.Number z else reply.None

-- a symbol is a next one where it is not below the number
abbrev pub symbol_reply : Query → ℕ → Reply
symbol_reply (query.Number (Coefficient v)) n = reply.Number (if v == n then pos 1 else pos 0)
symbol_reply (query.Number Units) n = reply.Number (pos 0)
symbol_reply (query.Next from) n = if nat_le from n then reply.Symbol n else reply.None

abbrev pub literal_reply : Query → ℤ → Reply
literal_reply (query.Number (Coefficient v)) z = reply.Number (pos 0)
literal_reply (query.Number Units) z = checked z
literal_reply (query.Next from) z = reply.None

-- of a reference, and of no terms
abbrev pub nothing_reply : Query → Reply
nothing_reply (query.Number f) = reply.Number (pos 0)
nothing_reply (query.Next from) = reply.None

-- of a sum: the sum, or the least symbol
abbrev pub sum_reply : Reply → Reply → Reply
sum_reply (reply.Number x) (reply.Number y) = checked (x +ℤ y)
sum_reply (reply.Number x) r = reply.None
sum_reply (reply.Symbol m) (reply.Symbol n) = if nat_le m n then reply.Symbol m else reply.Symbol n
sum_reply (reply.Symbol m) r = reply.Symbol m
sum_reply reply.None (reply.Symbol n) = reply.Symbol n
sum_reply reply.None r = reply.None

abbrev pub multiple_reply : ℤ → Reply → Reply
multiple_reply k (reply.Number x) = checked (k *ℤ x)
multiple_reply k r = r

-- of a term and those after it: the last number, or the least symbol
abbrev pub rest_reply : Reply → Reply → Reply
rest_reply (reply.Number x) r = r
rest_reply (reply.Symbol m) r = sum_reply (reply.Symbol m) r
rest_reply reply.None r = sum_reply reply.None r

abbrev pub list_reply : Query → List Reply → Reply
list_reply q [] = nothing_reply q
list_reply q (r ∷ []) = r
list_reply q (r ∷ s ∷ more) = rest_reply r (list_reply q (s ∷ more))

abbrev pub reply_step : Query → Term-F Reply → Reply
reply_step q (Term-F.Sym n) = symbol_reply q n
reply_step q (Term-F.Lit z) = literal_reply q z
reply_step q (Term-F.Add r s) = sum_reply r s
reply_step q (Term-F.Scale k r) = multiple_reply k r
reply_step q (Term-F.App operator all) = list_reply q all
reply_step q _ = nothing_reply q

-- what a term replies
abbrev pub reply_to : Query → Term → Reply
reply_to q = fold-Term Reply (reply_step q)

abbrev pub pending_step : Pending-F Change → Change
pending_step Pending-F.None = record { under = λ t. t; weight = 0; count = 0 }
pending_step (Pending-F.Next from from_puts to to_puts rest) = record {
  under = λ t. rest.now.under (put (node_term from from_puts.now) (node_term to to_puts.now) t);
  weight = rest.now.weight + (1 + node_weight from from_puts.now + node_weight to to_puts.now);
  count = rest.now.count + 1;
}

-- what the replacements still to be put do
abbrev pub after : Pending → Change
after = fold-Pending Change pending_step
