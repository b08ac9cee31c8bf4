use Rattle.std.proofs.Common.{◌≡◌, ◌++◌, drop, map, string_bytes}
use Rattle.std.specs.List.{list_all}
use Rattle.serde_json.specs.View.{items_of}
use Rattle.serde_json.specs.Written.{compact_text, items_text}
use Rattle.cert_format.specs.Forms.{list}
use Rattle.cert_format.proofs.writing.push_list.Given as goal

-- what is to come makes the text whole, and what was written is in range
abbrev pub invariant-loop-part : goal.invariant-loop-part
invariant-loop-part g l = record {
  text : string_bytes l.out ++ items_text l.later (items_of (map g.T.ToJson.form (drop l.part-index l.parts)))
      ≡ string_bytes l.fn.out ++ compact_text (list (map g.T.ToJson.form l.parts));
  in_range : list_all g.T.ToJson.fits (drop l.part-index l.parts) ≡ list_all g.T.ToJson.fits l.parts;
}
