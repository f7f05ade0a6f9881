-- Written by crates/rap_base/kinds from kinds.txt beside it: an edit here is lost.
-- The kinds of nodes, by their numbers; `ERROR` is among the tokens.
use Rattle.std.specs.Prelude.{ℕ}

abbrev pub TOMBSTONE : ℕ
TOMBSTONE = 157

abbrev pub SOURCE_FILE : ℕ
SOURCE_FILE = 158

abbrev pub MACRO_STMTS : ℕ
MACRO_STMTS = 159

abbrev pub MACRO_ITEMS : ℕ
MACRO_ITEMS = 160

abbrev pub NAME : ℕ
NAME = 161

abbrev pub NAME_REF : ℕ
NAME_REF = 162

abbrev pub LIFETIME : ℕ
LIFETIME = 163

abbrev pub VISIBILITY : ℕ
VISIBILITY = 164

abbrev pub VISIBILITY_INNER : ℕ
VISIBILITY_INNER = 165

abbrev pub RENAME : ℕ
RENAME = 166

abbrev pub ABI : ℕ
ABI = 167

abbrev pub RET_TYPE : ℕ
RET_TYPE = 168

abbrev pub PATH : ℕ
PATH = 169

abbrev pub PATH_SEGMENT : ℕ
PATH_SEGMENT = 170

abbrev pub TYPE_ANCHOR : ℕ
TYPE_ANCHOR = 171

abbrev pub RETURN_TYPE_SYNTAX : ℕ
RETURN_TYPE_SYNTAX = 172

abbrev pub PARENTHESIZED_ARG_LIST : ℕ
PARENTHESIZED_ARG_LIST = 173

abbrev pub LET_STMT : ℕ
LET_STMT = 174

abbrev pub EXPR_STMT : ℕ
EXPR_STMT = 175

abbrev pub LET_ELSE : ℕ
LET_ELSE = 176

abbrev pub STMT_LIST : ℕ
STMT_LIST = 177

abbrev pub BLOCK_EXPR : ℕ
BLOCK_EXPR = 178

abbrev pub LABEL : ℕ
LABEL = 179

abbrev pub TRY_BLOCK_MODIFIER : ℕ
TRY_BLOCK_MODIFIER = 180

abbrev pub RANGE_EXPR : ℕ
RANGE_EXPR = 181

abbrev pub BIN_EXPR : ℕ
BIN_EXPR = 182

abbrev pub REF_EXPR : ℕ
REF_EXPR = 183

abbrev pub PREFIX_EXPR : ℕ
PREFIX_EXPR = 184

abbrev pub CALL_EXPR : ℕ
CALL_EXPR = 185

abbrev pub INDEX_EXPR : ℕ
INDEX_EXPR = 186

abbrev pub METHOD_CALL_EXPR : ℕ
METHOD_CALL_EXPR = 187

abbrev pub FIELD_EXPR : ℕ
FIELD_EXPR = 188

abbrev pub AWAIT_EXPR : ℕ
AWAIT_EXPR = 189

abbrev pub TRY_EXPR : ℕ
TRY_EXPR = 190

abbrev pub CAST_EXPR : ℕ
CAST_EXPR = 191

abbrev pub ARG_LIST : ℕ
ARG_LIST = 192

abbrev pub RECORD_EXPR : ℕ
RECORD_EXPR = 193

abbrev pub RECORD_EXPR_FIELD : ℕ
RECORD_EXPR_FIELD = 194

abbrev pub RECORD_EXPR_FIELD_LIST : ℕ
RECORD_EXPR_FIELD_LIST = 195

abbrev pub MACRO_CALL : ℕ
MACRO_CALL = 196

abbrev pub MACRO_EXPR : ℕ
MACRO_EXPR = 197

abbrev pub PATH_EXPR : ℕ
PATH_EXPR = 198

abbrev pub LITERAL : ℕ
LITERAL = 199

abbrev pub UNDERSCORE_EXPR : ℕ
UNDERSCORE_EXPR = 200

abbrev pub PAREN_EXPR : ℕ
PAREN_EXPR = 201

abbrev pub TUPLE_EXPR : ℕ
TUPLE_EXPR = 202

abbrev pub ARRAY_EXPR : ℕ
ARRAY_EXPR = 203

abbrev pub CLOSURE_EXPR : ℕ
CLOSURE_EXPR = 204

abbrev pub IF_EXPR : ℕ
IF_EXPR = 205

abbrev pub LOOP_EXPR : ℕ
LOOP_EXPR = 206

abbrev pub WHILE_EXPR : ℕ
WHILE_EXPR = 207

abbrev pub FOR_EXPR : ℕ
FOR_EXPR = 208

abbrev pub LET_EXPR : ℕ
LET_EXPR = 209

abbrev pub MATCH_EXPR : ℕ
MATCH_EXPR = 210

abbrev pub MATCH_ARM_LIST : ℕ
MATCH_ARM_LIST = 211

abbrev pub MATCH_ARM : ℕ
MATCH_ARM = 212

abbrev pub MATCH_GUARD : ℕ
MATCH_GUARD = 213

abbrev pub RETURN_EXPR : ℕ
RETURN_EXPR = 214

abbrev pub BECOME_EXPR : ℕ
BECOME_EXPR = 215

abbrev pub YIELD_EXPR : ℕ
YIELD_EXPR = 216

abbrev pub YEET_EXPR : ℕ
YEET_EXPR = 217

abbrev pub CONTINUE_EXPR : ℕ
CONTINUE_EXPR = 218

abbrev pub BREAK_EXPR : ℕ
BREAK_EXPR = 219

abbrev pub OFFSET_OF_EXPR : ℕ
OFFSET_OF_EXPR = 220

abbrev pub FORMAT_ARGS_EXPR : ℕ
FORMAT_ARGS_EXPR = 221

abbrev pub FORMAT_ARGS_ARG : ℕ
FORMAT_ARGS_ARG = 222

abbrev pub INCLUDE_BYTES_EXPR : ℕ
INCLUDE_BYTES_EXPR = 223

abbrev pub CFG_PRED_EXPR : ℕ
CFG_PRED_EXPR = 224

abbrev pub ASM_EXPR : ℕ
ASM_EXPR = 225

abbrev pub ASM_CLOBBER_ABI : ℕ
ASM_CLOBBER_ABI = 226

abbrev pub ASM_OPTIONS : ℕ
ASM_OPTIONS = 227

abbrev pub ASM_OPTION : ℕ
ASM_OPTION = 228

abbrev pub ASM_DIR_SPEC : ℕ
ASM_DIR_SPEC = 229

abbrev pub ASM_OPERAND_EXPR : ℕ
ASM_OPERAND_EXPR = 230

abbrev pub ASM_REG_OPERAND : ℕ
ASM_REG_OPERAND = 231

abbrev pub ASM_OPERAND_NAMED : ℕ
ASM_OPERAND_NAMED = 232

abbrev pub ASM_LABEL : ℕ
ASM_LABEL = 233

abbrev pub ASM_CONST : ℕ
ASM_CONST = 234

abbrev pub ASM_SYM : ℕ
ASM_SYM = 235

abbrev pub ASM_REG_SPEC : ℕ
ASM_REG_SPEC = 236

abbrev pub MODULE : ℕ
MODULE = 237

abbrev pub ITEM_LIST : ℕ
ITEM_LIST = 238

abbrev pub EXTERN_CRATE : ℕ
EXTERN_CRATE = 239

abbrev pub EXTERN_BLOCK : ℕ
EXTERN_BLOCK = 240

abbrev pub EXTERN_ITEM_LIST : ℕ
EXTERN_ITEM_LIST = 241

abbrev pub IMPL_RESTRICTION : ℕ
IMPL_RESTRICTION = 242

abbrev pub MUT_RESTRICTION : ℕ
MUT_RESTRICTION = 243

abbrev pub TYPE_ALIAS : ℕ
TYPE_ALIAS = 244

abbrev pub MACRO_RULES : ℕ
MACRO_RULES = 245

abbrev pub MACRO_DEF : ℕ
MACRO_DEF = 246

abbrev pub FN : ℕ
FN = 247

abbrev pub TOKEN_TREE : ℕ
TOKEN_TREE = 248

abbrev pub STRUCT : ℕ
STRUCT = 249

abbrev pub UNION : ℕ
UNION = 250

abbrev pub ENUM : ℕ
ENUM = 251

abbrev pub VARIANT_LIST : ℕ
VARIANT_LIST = 252

abbrev pub VARIANT : ℕ
VARIANT = 253

abbrev pub RECORD_FIELD_LIST : ℕ
RECORD_FIELD_LIST = 254

abbrev pub RECORD_FIELD : ℕ
RECORD_FIELD = 255

abbrev pub TUPLE_FIELD_LIST : ℕ
TUPLE_FIELD_LIST = 256

abbrev pub TUPLE_FIELD : ℕ
TUPLE_FIELD = 257

abbrev pub CONST : ℕ
CONST = 258

abbrev pub STATIC : ℕ
STATIC = 259

abbrev pub TRAIT : ℕ
TRAIT = 260

abbrev pub IMPL : ℕ
IMPL = 261

abbrev pub ASSOC_ITEM_LIST : ℕ
ASSOC_ITEM_LIST = 262

abbrev pub USE : ℕ
USE = 263

abbrev pub USE_TREE : ℕ
USE_TREE = 264

abbrev pub USE_TREE_LIST : ℕ
USE_TREE_LIST = 265

abbrev pub PARAM_LIST : ℕ
PARAM_LIST = 266

abbrev pub PARAM : ℕ
PARAM = 267

abbrev pub SELF_PARAM : ℕ
SELF_PARAM = 268

abbrev pub OR_PAT : ℕ
OR_PAT = 269

abbrev pub RANGE_PAT : ℕ
RANGE_PAT = 270

abbrev pub REST_PAT : ℕ
REST_PAT = 271

abbrev pub DEREF_PAT : ℕ
DEREF_PAT = 272

abbrev pub CFG_PRED_PAT : ℕ
CFG_PRED_PAT = 273

abbrev pub LITERAL_PAT : ℕ
LITERAL_PAT = 274

abbrev pub TUPLE_STRUCT_PAT : ℕ
TUPLE_STRUCT_PAT = 275

abbrev pub RECORD_PAT : ℕ
RECORD_PAT = 276

abbrev pub RECORD_PAT_FIELD_LIST : ℕ
RECORD_PAT_FIELD_LIST = 277

abbrev pub RECORD_PAT_FIELD : ℕ
RECORD_PAT_FIELD = 278

abbrev pub MACRO_PAT : ℕ
MACRO_PAT = 279

abbrev pub PATH_PAT : ℕ
PATH_PAT = 280

abbrev pub WILDCARD_PAT : ℕ
WILDCARD_PAT = 281

abbrev pub REF_PAT : ℕ
REF_PAT = 282

abbrev pub NOT_NULL : ℕ
NOT_NULL = 283

abbrev pub PAREN_PAT : ℕ
PAREN_PAT = 284

abbrev pub TUPLE_PAT : ℕ
TUPLE_PAT = 285

abbrev pub SLICE_PAT : ℕ
SLICE_PAT = 286

abbrev pub IDENT_PAT : ℕ
IDENT_PAT = 287

abbrev pub BOX_PAT : ℕ
BOX_PAT = 288

abbrev pub CONST_BLOCK_PAT : ℕ
CONST_BLOCK_PAT = 289

abbrev pub PAREN_TYPE : ℕ
PAREN_TYPE = 290

abbrev pub TUPLE_TYPE : ℕ
TUPLE_TYPE = 291

abbrev pub NEVER_TYPE : ℕ
NEVER_TYPE = 292

abbrev pub PTR_TYPE : ℕ
PTR_TYPE = 293

abbrev pub SLICE_TYPE : ℕ
SLICE_TYPE = 294

abbrev pub ARRAY_TYPE : ℕ
ARRAY_TYPE = 295

abbrev pub REF_TYPE : ℕ
REF_TYPE = 296

abbrev pub INFER_TYPE : ℕ
INFER_TYPE = 297

abbrev pub FN_PTR_TYPE : ℕ
FN_PTR_TYPE = 298

abbrev pub FOR_BINDER : ℕ
FOR_BINDER = 299

abbrev pub FOR_TYPE : ℕ
FOR_TYPE = 300

abbrev pub IMPL_TRAIT_TYPE : ℕ
IMPL_TRAIT_TYPE = 301

abbrev pub DYN_TRAIT_TYPE : ℕ
DYN_TRAIT_TYPE = 302

abbrev pub MACRO_TYPE : ℕ
MACRO_TYPE = 303

abbrev pub PATH_TYPE : ℕ
PATH_TYPE = 304

abbrev pub PATTERN_TYPE : ℕ
PATTERN_TYPE = 305

abbrev pub TYPE_BOUND : ℕ
TYPE_BOUND = 306

abbrev pub TYPE_BOUND_LIST : ℕ
TYPE_BOUND_LIST = 307

abbrev pub GENERIC_ARG_LIST : ℕ
GENERIC_ARG_LIST = 308

abbrev pub TYPE_ARG : ℕ
TYPE_ARG = 309

abbrev pub LIFETIME_ARG : ℕ
LIFETIME_ARG = 310

abbrev pub CONST_ARG : ℕ
CONST_ARG = 311

abbrev pub ASSOC_TYPE_ARG : ℕ
ASSOC_TYPE_ARG = 312

abbrev pub USE_BOUND_GENERIC_ARGS : ℕ
USE_BOUND_GENERIC_ARGS = 313

abbrev pub GENERIC_PARAM_LIST : ℕ
GENERIC_PARAM_LIST = 314

abbrev pub LIFETIME_PARAM : ℕ
LIFETIME_PARAM = 315

abbrev pub TYPE_PARAM : ℕ
TYPE_PARAM = 316

abbrev pub CONST_PARAM : ℕ
CONST_PARAM = 317

abbrev pub WHERE_CLAUSE : ℕ
WHERE_CLAUSE = 318

abbrev pub WHERE_PRED : ℕ
WHERE_PRED = 319

abbrev pub DOC_COMMENT : ℕ
DOC_COMMENT = 320

abbrev pub ATTR : ℕ
ATTR = 321

abbrev pub UNSAFE_META : ℕ
UNSAFE_META = 322

abbrev pub CFG_ATTR_META : ℕ
CFG_ATTR_META = 323

abbrev pub CFG_META : ℕ
CFG_META = 324

abbrev pub CFG_ATOM : ℕ
CFG_ATOM = 325

abbrev pub CFG_COMPOSITE : ℕ
CFG_COMPOSITE = 326

abbrev pub KEY_VALUE_META : ℕ
KEY_VALUE_META = 327

abbrev pub TOKEN_TREE_META : ℕ
TOKEN_TREE_META = 328

abbrev pub PATH_META : ℕ
PATH_META = 329
