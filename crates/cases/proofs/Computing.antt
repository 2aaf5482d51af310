-- What the cases are computed with.
use Rattle.rules.specs.Lists.{pick, all, any, every_two, keep_if, only, first_if, first, is_some, sum, largest, both, eq_list, part, padded}
use Rattle.rules.specs.Fields.{byte_at, le, le_bytes, splice, signed_of, bits_of, stamp_in, stamp_bytes, byte_sum, checks, checksum_of, up_to_zero, has_zero}
use Rattle.rules.specs.Editions.{by_edition, version_of, version_named, edition_named, super_block_at, version_read, version_written, sum_length, sum_good, sum_of, past_end, stored_end, keeps_deleted, takes_stray, before_directories}
use Rattle.rules.specs.SuperBlock.{length_good, writable, geometry_of, block_bytes, block_length, ceiling_block, data_end, index_good, geometry_good, field_of, with_index, with_data, with_stamp, grow_index, extend_data, trim_data, restamp, sizes_bytes, summed_bytes, super_block_bytes, put_sizes}
use Rattle.rules.specs.Utf8.{within, is_code, encode, encode_all, tails, row, first_char, also, onward, decode_to, decode}
use Rattle.rules.specs.Names.{is_mark, code_good, codes_good, text_good, into_first, parts, part_good, path_good, new_path_good, volume_text_good, volume_name_good, lead_if, leading, is_below}
use Rattle.rules.specs.Index.{file_type, directory_type, run_type, live_type, deleted_type, stray_type, stale_type, name_at, run_slots, run_field, name_field, file_field, entry_at, unusable_at, name_good, run_whole, run_at, unusable_item, stale_slots, item_at, followed, walk, walk_all, slot_at, inner_slots, items_of, entries_of, is_fault, identifier_at, volume_field, volume_name, volume_stamp, identifier_good, marker_good, index_sound, entry_bytes, marker_bytes, identifier_bytes, unused_bytes, continuing, region_bytes, run_bytes, retyped}
use Rattle.rules.specs.Regions.{extent_of, holds, blocks_of, within_data, file_region_good, region_good, apart, regions_sound, held_blocks, busy, run_free, lowest_from, lowest_free, blocks_needed}
use Rattle.rules.specs.Paths.{is_live, live_at, is_deleted, deleted_at, lookup, is_directory_at, directory_live, directories_live, paths_differ, paths_sound, any_below, live_from, next_live}
use Rattle.rules.specs.Refusals.{need, need_found, and_then, magic_good, edition_of, version_good, checksum_good, judge_index, judge_super, judge_geometry, judge, judge_read, judge_as}
use Rattle.rules.specs.Outcome.{done, conclude, on_volume, no_volume, no_entry, numbers_of, none_listed}
use Rattle.rules.specs.Reading.{volume_numbers, open_of, find_of, file_bytes, read_of, listed, list_of}
use Rattle.rules.specs.Records.{numbers_bytes, record_bytes, record_of, stop_at, with_record, record_step, records_from, no_records, records_outcome, list_all_of}
use Rattle.rules.specs.Writing.{tidied, fresh_geometry, formatted, format_of, kind_of, bytes_of, nearest_live, unused_first, starts_unused, item_slot, lowest_unused, may_grow, grown_place, place_from, is_above, items_before, places_for, place_run, place_file, new_entry, put_marker, created, create_of, region_cleared, on_deletable, wiped, delete_of, deleted_kind, deleted, delete_keep_of, live_kind, restored, restore_of, cleared, least_end, reclaim_of}
use Rattle.rules.specs.History.{passed, step, nothing, kept_of, kept_at, marked, revived, marked_in, struck_in, fed, feed, run, told}
use Rattle.rules.specs.Text.{digit, digits, decimal, widened}
use Rattle.rules.specs.Dates.{floor_div, floor_mod, divides, leap_year, year_length, month_length, count_off, year_off, month_off, date_in, date_of, seconds_of, days_of, second_of_day, moment_of, year_text, two_digits, moment_text}
use Rattle.rules.specs.Listing.{line_of, lines_of, count_line, refused_line, volume_text, listing_of, text_of}
use Rattle.rules.specs.Report.{entry_kind, item_kind, slots_in, blocks_in, bytes_in, sums_of_kind, sums_of, opened_sums, image_sums, added, one_more, count_verdict, no_report, with_image, with_source, report_from, source_sums, totals, numbers_line, table_lines, kind_words, pairs, count_lines, report_text, report_of, lines_after, names_of, name_of_file, source_of, output_of, report_in, report_numbers, verdict_number, count_image, report_text_of}
use Rattle.rules.specs.RegionTable.{regions_of, extent_le, inserted, in_order, apart_number, untabled, tabled, judge_bounds, table_by, table_of, sharing_by, sharing_of}
use Rattle.rules.specs.Comparing.{at_last, last_alike, goes_on, walked, looked, name_in, met, entry_looked, search_looked, find_looked}

-- All definitions of the rules by one name: a theorem that says `unfolding everything` computes through them.
unfoldable pub everything : Unit {0}
unfolding
    pick all any every_two keep_if only first_if first is_some sum largest both eq_list part padded
    byte_at le le_bytes splice signed_of bits_of stamp_in stamp_bytes byte_sum checks checksum_of up_to_zero has_zero
    by_edition version_of version_named edition_named super_block_at version_read version_written sum_length sum_good sum_of past_end
    stored_end keeps_deleted takes_stray before_directories
    length_good writable geometry_of block_bytes block_length ceiling_block data_end index_good geometry_good field_of with_index with_data
    with_stamp grow_index extend_data trim_data restamp sizes_bytes summed_bytes super_block_bytes put_sizes
    within is_code encode encode_all tails row first_char also onward decode_to decode
    is_mark code_good codes_good text_good into_first parts part_good path_good new_path_good volume_text_good volume_name_good lead_if leading
    is_below
    file_type directory_type run_type live_type deleted_type stray_type stale_type name_at run_slots run_field name_field file_field entry_at
    unusable_at name_good run_whole run_at unusable_item stale_slots item_at followed walk walk_all slot_at inner_slots items_of entries_of
    is_fault identifier_at volume_field volume_name volume_stamp identifier_good marker_good index_sound entry_bytes marker_bytes
    identifier_bytes unused_bytes continuing region_bytes run_bytes retyped
    extent_of holds blocks_of within_data file_region_good region_good apart regions_sound held_blocks busy run_free lowest_from lowest_free
    blocks_needed
    is_live live_at is_deleted deleted_at lookup is_directory_at directory_live directories_live paths_differ paths_sound any_below live_from next_live
    need need_found and_then magic_good edition_of version_good checksum_good judge_index judge_super judge_geometry judge judge_read judge_as
    done conclude on_volume no_volume no_entry numbers_of none_listed
    volume_numbers open_of find_of file_bytes read_of listed list_of
    numbers_bytes record_bytes record_of stop_at with_record record_step records_from no_records records_outcome list_all_of
    tidied fresh_geometry formatted format_of kind_of bytes_of nearest_live unused_first starts_unused item_slot lowest_unused may_grow
    grown_place place_from is_above items_before places_for place_run place_file new_entry put_marker created create_of region_cleared
    on_deletable wiped delete_of deleted_kind deleted delete_keep_of live_kind restored restore_of cleared least_end reclaim_of
    passed step nothing kept_of kept_at marked revived marked_in struck_in fed feed run told
    digit digits decimal widened
    floor_div floor_mod divides leap_year year_length month_length count_off year_off month_off date_in date_of seconds_of days_of second_of_day
    moment_of year_text two_digits moment_text
    line_of lines_of count_line refused_line volume_text listing_of text_of
    entry_kind item_kind slots_in blocks_in bytes_in sums_of_kind sums_of opened_sums image_sums added one_more count_verdict no_report with_image with_source report_from source_sums totals
    numbers_line table_lines kind_words pairs count_lines report_text report_of lines_after names_of name_of_file source_of output_of report_in report_numbers verdict_number count_image report_text_of
    regions_of extent_le inserted in_order apart_number untabled tabled judge_bounds table_by table_of sharing_by sharing_of
    at_last last_alike goes_on walked looked name_in met entry_looked search_looked find_looked
everything = tt
