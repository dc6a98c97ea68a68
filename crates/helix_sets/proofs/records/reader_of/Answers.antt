use Rattle.std.proofs.Common.{◌∙◌, inr, sym, ap, refl}
use Rattle.csv.specs.Reading.{Reached, builder_config, builder_names_headers, builder_trim, strip_bom}
use Rattle.helix_sets.proofs.records.reader_of.Goals as goal

pub returns : goal.returns
unfolding Reached
returns c = let made = c.from_reader.ensures in record {
  plain = made.trim ∙ (ap builder_trim c.flexible.ensures ∙ (ap builder_trim c.has_headers.ensures
      ∙ c.new.ensures.trim));
  ready = inr (inr (
    made.has_headers
        ∙ (ap builder_names_headers c.flexible.ensures ∙ ap builder_names_headers c.has_headers.ensures),
    made.headers,
  ));
  config = made.config
      ∙ (ap builder_config c.flexible.ensures ∙ (ap builder_config c.has_headers.ensures ∙ c.new.ensures.config));
  rest = strip_bom c.args.bytes.now;
  source = made.source;
  reached = (sym made.state, refl);
}
