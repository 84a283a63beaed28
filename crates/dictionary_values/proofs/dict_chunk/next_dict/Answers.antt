use Rattle.std.proofs.Common.{◌≡◌, ◌∙◌, List, [], Option, Some, All, ap, map, refl, subst, sym}
use Rattle.std.specs.Prelude.{IfOk, option_map, unwrap_or}
use Rattle.columns_core.specs.Array.{cells}
use Rattle.columns_core.specs.Keyed.{named_cells}
use Rattle.columns_core.specs.declared.cell.Cell.{Cell}
use Rattle.page_decoding.specs.Outcome.{Given}
use Rattle.page_decoding.specs.Standing.{standing}
use Rattle.dictionary_values.specs.Keys.{NamesEntry, key_cells, named_cell}
use Rattle.dictionary_values.specs.declared.key_values.DecodedKeys.{DecodedKeys}
use Rattle.dictionary_values.proofs.IterLemmas.{any-pages}
use Rattle.dictionary_values.proofs.NextLemmas.{after-keyed, after-names, fails-named, more-wanted, names-now, next-given, next-keyed, next-names, next-names-stay, next-there, none-wanted, of-array, on-array, one-advances, one-fails, one-first}
use Rattle.dictionary_values.proofs.dict_chunk.next_dict.Goals as goal

pub next-requires-clause-takes : goal.next-requires-clause-takes
next-requires-clause-takes g c = any-pages (g.I.Pages.to_come c.args.iter.now)

pub returns-in-More-clause-chunk : goal.returns-in-More-clause-chunk
returns-in-More-clause-chunk g c =
    let shown = λ (d : DecodedKeys g.row.K.Denot). key_cells g.K.DictionaryKey.number d.keys.items d.validity in
    let entries = g.R.ReadDict.entries c.args.read_dict.now in
    let most = g.K.StoredKey.key_count in
    let old = g.I.Pages.to_come c.args.iter.now in
    let new = g.I.Pages.to_come c.next.new.iter in
    let causes = g.I.Pages.causes c.args.iter.now in
    let causes_now = g.I.Pages.causes c.next.new.iter in
    let before = standing shown cells c.args.items.now.items c.args.remaining.now c.args.dict.now in
    let after = standing shown cells c.next.new.items.items c.next.new.remaining c.next.new.dict in
    more-wanted entries most old new causes causes_now before c.requires.keyed after c.in-More.ensures.standing c.in-More.ensures.chunk

pub returns-in-More-clause-keyed : goal.returns-in-More-clause-keyed
returns-in-More-clause-keyed g c =
    let shown = λ (d : DecodedKeys g.row.K.Denot). key_cells g.K.DictionaryKey.number d.keys.items d.validity in
    let entries = g.R.ReadDict.entries c.args.read_dict.now in
    let most = g.K.StoredKey.key_count in
    let old = g.I.Pages.to_come c.args.iter.now in
    let new = g.I.Pages.to_come c.next.new.iter in
    let causes = g.I.Pages.causes c.args.iter.now in
    let causes_now = g.I.Pages.causes c.next.new.iter in
    let before = standing shown cells c.args.items.now.items c.args.remaining.now c.args.dict.now in
    let after = standing shown cells c.next.new.items.items c.next.new.remaining c.next.new.dict in
    after-keyed entries most old new causes causes_now before c.requires.keyed after c.in-More.ensures.standing

pub returns-in-None-clause-chunk : goal.returns-in-None-clause-chunk
returns-in-None-clause-chunk g c =
    let shown = λ (d : DecodedKeys g.row.K.Denot). key_cells g.K.DictionaryKey.number d.keys.items d.validity in
    let entries = g.R.ReadDict.entries c.args.read_dict.now in
    let most = g.K.StoredKey.key_count in
    let old = g.I.Pages.to_come c.args.iter.now in
    let new = g.I.Pages.to_come c.next.new.iter in
    let causes = g.I.Pages.causes c.args.iter.now in
    let causes_now = g.I.Pages.causes c.next.new.iter in
    let before = standing shown cells c.args.items.now.items c.args.remaining.now c.args.dict.now in
    let after = standing shown cells c.next.new.items.items c.next.new.remaining c.next.new.dict in
    none-wanted entries most old new causes causes_now before c.requires.keyed after c.in-None.ensures.standing c.in-None.ensures.chunk

pub returns-in-None-clause-keyed : goal.returns-in-None-clause-keyed
returns-in-None-clause-keyed g c =
    let shown = λ (d : DecodedKeys g.row.K.Denot). key_cells g.K.DictionaryKey.number d.keys.items d.validity in
    let entries = g.R.ReadDict.entries c.args.read_dict.now in
    let most = g.K.StoredKey.key_count in
    let old = g.I.Pages.to_come c.args.iter.now in
    let new = g.I.Pages.to_come c.next.new.iter in
    let causes = g.I.Pages.causes c.args.iter.now in
    let causes_now = g.I.Pages.causes c.next.new.iter in
    let before = standing shown cells c.args.items.now.items c.args.remaining.now c.args.dict.now in
    let after = standing shown cells c.next.new.items.items c.next.new.remaining c.next.new.dict in
    after-keyed entries most old new causes causes_now before c.requires.keyed after c.in-None.ensures.standing

pub returns-in-Some-Err-clause-cause : goal.returns-in-Some-Err-clause-cause
returns-in-Some-Err-clause-cause g c =
    let shown = λ (d : DecodedKeys g.row.K.Denot). key_cells g.K.DictionaryKey.number d.keys.items d.validity in
    let entries = g.R.ReadDict.entries c.args.read_dict.now in
    let most = g.K.StoredKey.key_count in
    let old = g.I.Pages.to_come c.args.iter.now in
    let new = g.I.Pages.to_come c.next.new.iter in
    let causes = g.I.Pages.causes c.args.iter.now in
    let causes_now = g.I.Pages.causes c.next.new.iter in
    let before = standing shown cells c.args.items.now.items c.args.remaining.now c.args.dict.now in
    one-fails _ _ c.in-Some-Err.field-0 c.in-Some-Err.error c.in-Some-Err.field-0-is (fails-named entries most old new causes causes_now before c.requires.keyed c.args.chunk_size c.in-Some-Err.error) c.in-Some-Err.ensures.cause

pub array_of-requires-clause-named : goal.array_of-requires-clause-named
array_of-requires-clause-named g c =
    let shown = λ (d : DecodedKeys g.row.K.Denot). key_cells g.K.DictionaryKey.number d.keys.items d.validity in
    let entries = g.R.ReadDict.entries c.args.read_dict.now in
    let most = g.K.StoredKey.key_count in
    let old = g.I.Pages.to_come c.args.iter.now in
    let new = g.I.Pages.to_come c.next.new.iter in
    let causes = g.I.Pages.causes c.args.iter.now in
    let causes_now = g.I.Pages.causes c.next.new.iter in
    let before = standing shown cells c.args.items.now.items c.args.remaining.now c.args.dict.now in
    let keys = c.in-Some-Ok.keys in
    let advances = one-advances shown cells c.in-Some-Ok.field-0 keys c.in-Some-Ok.field-0-is entries most old new before c.next.new.items.items c.next.new.remaining c.next.new.dict c.in-Some-Ok.ensures.standing in
    let first = one-first shown cells c.in-Some-Ok.field-0 keys c.in-Some-Ok.field-0-is c.args.chunk_size _ _ c.in-Some-Ok.ensures.chunk in
    let there : option_map cells c.next.new.dict ≡ Some (cells c.in-Some.entries.now) = ap (option_map cells) (sym c.in-Some.ensures.value) in
    let P : Option (List Cell) → Type 0 = λ d. All (NamesEntry (unwrap_or d [])) (map Given (shown keys)) in
    subst P there (next-names entries most old new causes causes_now before c.requires.keyed shown cells c.args.chunk_size c.next.new.items.items c.next.new.remaining c.next.new.dict keys advances first)

pub unreachable-requires : goal.unreachable-requires
unreachable-requires g c =
    let shown = λ (d : DecodedKeys g.row.K.Denot). key_cells g.K.DictionaryKey.number d.keys.items d.validity in
    let entries = g.R.ReadDict.entries c.args.read_dict.now in
    let most = g.K.StoredKey.key_count in
    let old = g.I.Pages.to_come c.args.iter.now in
    let new = g.I.Pages.to_come c.next.new.iter in
    let causes = g.I.Pages.causes c.args.iter.now in
    let causes_now = g.I.Pages.causes c.next.new.iter in
    let before = standing shown cells c.args.items.now.items c.args.remaining.now c.args.dict.now in
    let keys = c.in-Some-Ok.keys in
    let advances = one-advances shown cells c.in-Some-Ok.field-0 keys c.in-Some-Ok.field-0-is entries most old new before c.next.new.items.items c.next.new.remaining c.next.new.dict c.in-Some-Ok.ensures.standing in
    let first = one-first shown cells c.in-Some-Ok.field-0 keys c.in-Some-Ok.field-0-is c.args.chunk_size _ _ c.in-Some-Ok.ensures.chunk in
    next-there entries most old new causes causes_now before c.requires.keyed shown cells c.args.chunk_size c.next.new.items.items c.next.new.remaining c.next.new.dict keys advances first (ap (option_map cells) (sym c.in-None-as_ref.ensures.value))

pub returns-in-Some-clause-chunk : goal.returns-in-Some-clause-chunk
returns-in-Some-clause-chunk g c =
    let shown = λ (d : DecodedKeys g.row.K.Denot). key_cells g.K.DictionaryKey.number d.keys.items d.validity in
    let entries = g.R.ReadDict.entries c.args.read_dict.now in
    let most = g.K.StoredKey.key_count in
    let old = g.I.Pages.to_come c.args.iter.now in
    let new = g.I.Pages.to_come c.next.new.iter in
    let causes = g.I.Pages.causes c.args.iter.now in
    let causes_now = g.I.Pages.causes c.next.new.iter in
    let before = standing shown cells c.args.items.now.items c.args.remaining.now c.args.dict.now in
    let keys = c.in-Some-Ok.keys in
    let advances = one-advances shown cells c.in-Some-Ok.field-0 keys c.in-Some-Ok.field-0-is entries most old new before c.next.new.items.items c.next.new.remaining c.next.new.dict c.in-Some-Ok.ensures.standing in
    let first = one-first shown cells c.in-Some-Ok.field-0 keys c.in-Some-Ok.field-0-is c.args.chunk_size _ _ c.in-Some-Ok.ensures.chunk in
    let there : option_map cells c.next.new.dict ≡ Some (cells c.in-Some.entries.now) = ap (option_map cells) (sym c.in-Some.ensures.value) in
    let P : Option (List Cell) → Type 0 = λ d. IfOk c.array_of.result (λ array. named_cells array ≡ map (named_cell (unwrap_or d [])) (shown keys)) in
    next-given entries most old new causes causes_now before c.requires.keyed shown cells c.args.chunk_size c.next.new.items.items c.next.new.remaining c.next.new.dict keys advances first named_cells c.array_of.result (subst P (sym there) c.array_of.ensures.cells)

pub returns-in-Some-clause-keyed : goal.returns-in-Some-clause-keyed
returns-in-Some-clause-keyed g c =
    let shown = λ (d : DecodedKeys g.row.K.Denot). key_cells g.K.DictionaryKey.number d.keys.items d.validity in
    let entries = g.R.ReadDict.entries c.args.read_dict.now in
    let most = g.K.StoredKey.key_count in
    let old = g.I.Pages.to_come c.args.iter.now in
    let new = g.I.Pages.to_come c.next.new.iter in
    let causes = g.I.Pages.causes c.args.iter.now in
    let causes_now = g.I.Pages.causes c.next.new.iter in
    let before = standing shown cells c.args.items.now.items c.args.remaining.now c.args.dict.now in
    let keys = c.in-Some-Ok.keys in
    let advances = one-advances shown cells c.in-Some-Ok.field-0 keys c.in-Some-Ok.field-0-is entries most old new before c.next.new.items.items c.next.new.remaining c.next.new.dict c.in-Some-Ok.ensures.standing in
    let first = one-first shown cells c.in-Some-Ok.field-0 keys c.in-Some-Ok.field-0-is c.args.chunk_size _ _ c.in-Some-Ok.ensures.chunk in
    on-array _ c.array_of.result (next-keyed entries most old new causes causes_now before c.requires.keyed shown cells c.args.chunk_size c.next.new.items.items c.next.new.remaining c.next.new.dict keys advances first)

pub returns-in-More-clause-dictionary : goal.returns-in-More-clause-dictionary
returns-in-More-clause-dictionary g c =
    let shown = λ (d : DecodedKeys g.row.K.Denot). key_cells g.K.DictionaryKey.number d.keys.items d.validity in
    let entries = g.R.ReadDict.entries c.args.read_dict.now in
    let most = g.K.StoredKey.key_count in
    let old = g.I.Pages.to_come c.args.iter.now in
    let new = g.I.Pages.to_come c.next.new.iter in
    let causes = g.I.Pages.causes c.args.iter.now in
    let causes_now = g.I.Pages.causes c.next.new.iter in
    let before = standing shown cells c.args.items.now.items c.args.remaining.now c.args.dict.now in
    let after = standing shown cells c.next.new.items.items c.next.new.remaining c.next.new.dict in
    after-names entries most old new causes causes_now before c.requires.keyed after c.in-More.ensures.standing

pub returns-in-None-clause-dictionary : goal.returns-in-None-clause-dictionary
returns-in-None-clause-dictionary g c =
    let shown = λ (d : DecodedKeys g.row.K.Denot). key_cells g.K.DictionaryKey.number d.keys.items d.validity in
    let entries = g.R.ReadDict.entries c.args.read_dict.now in
    let most = g.K.StoredKey.key_count in
    let old = g.I.Pages.to_come c.args.iter.now in
    let new = g.I.Pages.to_come c.next.new.iter in
    let causes = g.I.Pages.causes c.args.iter.now in
    let causes_now = g.I.Pages.causes c.next.new.iter in
    let before = standing shown cells c.args.items.now.items c.args.remaining.now c.args.dict.now in
    let after = standing shown cells c.next.new.items.items c.next.new.remaining c.next.new.dict in
    after-names entries most old new causes causes_now before c.requires.keyed after c.in-None.ensures.standing

pub returns-in-Some-clause-entries : goal.returns-in-Some-clause-entries
returns-in-Some-clause-entries g c =
    let shown = λ (d : DecodedKeys g.row.K.Denot). key_cells g.K.DictionaryKey.number d.keys.items d.validity in
    let entries = g.R.ReadDict.entries c.args.read_dict.now in
    let most = g.K.StoredKey.key_count in
    let old = g.I.Pages.to_come c.args.iter.now in
    let new = g.I.Pages.to_come c.next.new.iter in
    let causes = g.I.Pages.causes c.args.iter.now in
    let causes_now = g.I.Pages.causes c.next.new.iter in
    let before = standing shown cells c.args.items.now.items c.args.remaining.now c.args.dict.now in
    let keys = c.in-Some-Ok.keys in
    let advances = one-advances shown cells c.in-Some-Ok.field-0 keys c.in-Some-Ok.field-0-is entries most old new before c.next.new.items.items c.next.new.remaining c.next.new.dict c.in-Some-Ok.ensures.standing in
    let first = one-first shown cells c.in-Some-Ok.field-0 keys c.in-Some-Ok.field-0-is c.args.chunk_size _ _ c.in-Some-Ok.ensures.chunk in
    let there : option_map cells c.next.new.dict ≡ Some (cells c.in-Some.entries.now) = ap (option_map cells) (sym c.in-Some.ensures.value) in
    let same = names-now entries most old new causes causes_now before c.requires.keyed shown cells c.args.chunk_size c.next.new.items.items c.next.new.remaining c.next.new.dict keys advances first
    ∙ ap (λ d. unwrap_or d []) there in
    let P : List Cell → Type 0 = λ found. IfOk c.array_of.result (λ array. array.entries ≡ found) in
    of-array _ c.array_of.result (subst P (sym same) c.array_of.ensures.entries)

pub returns-in-Some-clause-dictionary : goal.returns-in-Some-clause-dictionary
returns-in-Some-clause-dictionary g c =
    let shown = λ (d : DecodedKeys g.row.K.Denot). key_cells g.K.DictionaryKey.number d.keys.items d.validity in
    let entries = g.R.ReadDict.entries c.args.read_dict.now in
    let most = g.K.StoredKey.key_count in
    let old = g.I.Pages.to_come c.args.iter.now in
    let new = g.I.Pages.to_come c.next.new.iter in
    let causes = g.I.Pages.causes c.args.iter.now in
    let causes_now = g.I.Pages.causes c.next.new.iter in
    let before = standing shown cells c.args.items.now.items c.args.remaining.now c.args.dict.now in
    let keys = c.in-Some-Ok.keys in
    let advances = one-advances shown cells c.in-Some-Ok.field-0 keys c.in-Some-Ok.field-0-is entries most old new before c.next.new.items.items c.next.new.remaining c.next.new.dict c.in-Some-Ok.ensures.standing in
    let first = one-first shown cells c.in-Some-Ok.field-0 keys c.in-Some-Ok.field-0-is c.args.chunk_size _ _ c.in-Some-Ok.ensures.chunk in
    on-array _ c.array_of.result (next-names-stay entries most old new causes causes_now before c.requires.keyed shown cells c.args.chunk_size c.next.new.items.items c.next.new.remaining c.next.new.dict keys advances first)

pub returns-in-More-clause-standing : goal.returns-in-More-clause-standing
returns-in-More-clause-standing g c = (_, c.in-More.ensures.standing, refl)

pub returns-in-None-clause-standing : goal.returns-in-None-clause-standing
returns-in-None-clause-standing g c = (_, c.in-None.ensures.standing, refl)

pub returns-in-Some-clause-standing : goal.returns-in-Some-clause-standing
returns-in-Some-clause-standing g c =
    let shown = λ (d : DecodedKeys g.row.K.Denot). key_cells g.K.DictionaryKey.number d.keys.items d.validity in
    let entries = g.R.ReadDict.entries c.args.read_dict.now in
    let most = g.K.StoredKey.key_count in
    let old = g.I.Pages.to_come c.args.iter.now in
    let new = g.I.Pages.to_come c.next.new.iter in
    let causes = g.I.Pages.causes c.args.iter.now in
    let causes_now = g.I.Pages.causes c.next.new.iter in
    let before = standing shown cells c.args.items.now.items c.args.remaining.now c.args.dict.now in
    let keys = c.in-Some-Ok.keys in
    let advances = one-advances shown cells c.in-Some-Ok.field-0 keys c.in-Some-Ok.field-0-is entries most old new before c.next.new.items.items c.next.new.remaining c.next.new.dict c.in-Some-Ok.ensures.standing in
    on-array _ c.array_of.result (_, advances, refl)
