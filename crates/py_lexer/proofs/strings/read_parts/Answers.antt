use Rattle.std.proofs.Common.{List, ℕ, subst, sym, drop, ◌++◌, string_bytes}
use Rattle.std.specs.Char.{encode_utf8}
use Rattle.py_lexer.specs.declared.strings.Reading.{Reading}
use Rattle.py_lexer.specs.StringReading.{quotes_of, StandsNext, HasRead}
use Rattle.py_lexer.proofs.StringWhole.{read_more}
use Rattle.py_lexer.proofs.strings.read_parts.Goals as goal

pub parts-preserved : goal.parts-preserved
parts-preserved c =
    let h : HasRead (quotes_of c.args.opening) c.args.codes.now (string_bytes c.parts.text ++ encode_utf8 c.in-Part.value) (drop c.in-Part.len c.parts.rest.now) = read_more (quotes_of c.args.opening) c.args.codes.now (string_bytes c.parts.text) c.parts.rest.now c.in-Part.len c.in-Part.value c.parts.invariant (subst (λ (r : Reading). StandsNext (quotes_of c.args.opening) c.parts.rest.now r) c.in-Part.is c.next_part.ensures) in
    let i : HasRead (quotes_of c.args.opening) c.args.codes.now (string_bytes c.push.new.self) (drop c.in-Part.len c.parts.rest.now) = subst (λ (b : List ℕ). HasRead (quotes_of c.args.opening) c.args.codes.now b (drop c.in-Part.len c.parts.rest.now)) (sym c.in_ok-push-in-Part.ensures.bytes) h in
    subst (λ (x : List ℕ). HasRead (quotes_of c.args.opening) c.args.codes.now (string_bytes c.push.new.self) x) (sym c.split_at.ensures.back) i
