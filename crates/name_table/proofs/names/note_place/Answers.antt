use Rattle.std.proofs.Common.{◌∙◌, ap, bytes_eq}
use Rattle.std.specs.Map.{lookup}
use Rattle.indexmap.proofs.CallerLemmas.{insert_entry-new}
use Rattle.name_table.proofs.Places.{none_at, lookup_push}
use Rattle.name_table.proofs.names.note_place.Goals as goal

pub returns : goal.returns
returns c n =
    let added = c.in-Ok.ensures.entries ∙ insert_entry-new _ c.args.places.now c.args.name c.args.place (none_at _ c.if-contains_key.ensures) in
    ap (lookup (λ key. bytes_eq n key.items)) added ∙ lookup_push (λ key. bytes_eq n key.items) c.args.places.now.entries c.args.name c.args.place
