-- What a reply writes.
use Rattle.std.specs.Prelude.{◌≡◌, ℕ, List, flat_map, string_bytes}
use Rattle.nagini_cli.specs.declared.reply.Reply.{Reply}

-- its lines, one after another
abbrev pub text_of : Reply → List ℕ
text_of reply = flat_map string_bytes reply.lines.items

-- the reply has this status and this text
pub record Says (reply : Reply) (status : ℕ) (text : List ℕ) : Type 0 where
  pub status_is : reply.status ≡ status
  pub text_is : text_of reply ≡ text
